-- One step of the machine, outcome by outcome: `do-` where the run goes on, `end-` where it ends.
use Rattle.std.proofs.Common.{◌≡◌, ℕ, suc, ◌+◌, ◌-◌, ◌<◌, ◌≤◌, true, false, List, [], ◌∷◌, ◌++◌, length, ℤ, pos, negsuc, ◌+ℤ◌, is_some, Some, None, Ok, Err, ap, arith}
use Rattle.std.proofs.lemmas.Int.{ints}
use Rattle.std.proofs.lemmas.Bool.{lt-ltb, le-ltb}
use Rattle.store.specs.Val.{Val, equal_val}
use Rattle.store.specs.Tables as store
use Rattle.store.specs.Tables.{look, put, made, takes}
use Rattle.machine.specs.declared.arith.Op.{Op}
use Rattle.machine.specs.declared.arith.Order.{Order}
use Rattle.machine.specs.declared.instruction.Kind.{Kind}
use Rattle.machine.specs.declared.builtin.Builtin.{Builtin}
use Rattle.machine.specs.declared.ending.Ending.{Ending}
use Rattle.machine.specs.declared.ending.Ending.TheVariants.{Finished, NoTableSpace, NoFrameSpace, Stuck}
use Rattle.machine.specs.Limits.{registers_per_frame, most_frames, Limits}
use Rattle.machine.specs.Outcome.{Outcome}
use Rattle.machine.specs.Arith as arithmetic
use Rattle.machine.specs.Arith.{in_order}
use Rattle.machine.specs.Effects.{Effects}
use Rattle.machine.specs.Builtin.{builtin_of, apply}
use Rattle.machine.specs.Instr.{Instr, Program, fetch}
use Rattle.machine.specs.State.{Registers, write, passed, Frame, frame, World, with_tables, with_globals, with_effects, State, at, goes, ends}
use Rattle.machine.specs.Operands.{truth, is_zero, is_of}
use Rattle.machine.specs.Step.{holds_global, halted, next_of, exec, step}
use Rattle.machine.proofs.Judge.{Has, Hold, Fetch, Step}
use Rattle.machine.proofs.Registers.{values-held}

-- where a jump leads: n places on from the instruction behind it, or back to the n-th place before the jump itself
pub forward : (pc n p : ℕ) → suc pc + n ≡ p → pos (suc pc) +ℤ pos n ≡ pos p
forward pc n p e = ap pos e

pub back : (pc n p : ℕ) → p + n ≡ pc → pos (suc pc) +ℤ negsuc n ≡ pos p
back pc n p e = omega (arith, ints)

module _ {P : Program} {L : Limits} {f pc : ℕ} {R : Registers} {S : List Frame} {W : World} where
  step_is : {i : Instr} (x : Outcome State) → Fetch P f pc i → exec P L i (at f pc R S W) ≡ x → Step P L (at f pc R S W) (next_of W.effects x)
  unfolding step
  step_is x h e = record { is = rw (h.is, e) }

  -- past the last instruction, or in what names no function
  pub end-nowhere : fetch P f pc ≡ None → Step P L (at f pc R S W) (ends Stuck W.effects)
  unfolding step
  end-nowhere e = record { is = rw e }

  pub do-const : {a : ℕ} {v : Val} → Fetch P f pc (Instr.const a v) → a < registers_per_frame → Step P L (at f pc R S W) (goes (at f (suc pc) (write R a v) S W))
  unfolding exec
  do-const {a} h l = step_is (Ok _) h (rw (lt-ltb a registers_per_frame l))

  pub do-mov : {a b : ℕ} {v : Val} → Fetch P f pc (Instr.mov a b) → a < registers_per_frame → Has R b v → Step P L (at f pc R S W) (goes (at f (suc pc) (write R a v) S W))
  unfolding exec
  do-mov {a} h l hb = step_is (Ok _) h (rw (lt-ltb a registers_per_frame l, hb.is))

  pub do-arith : {o : Op} {a b c : ℕ} {x y z : ℤ} → Fetch P f pc (Instr.arith o a b c) → a < registers_per_frame → Has R b (Val.int x) → Has R c (Val.int y) → arithmetic.arith o x y ≡ Ok z → Step P L (at f pc R S W) (goes (at f (suc pc) (write R a (Val.int z)) S W))
  unfolding exec
  do-arith {a = a} h l hb hc e = step_is (Ok _) h (rw (lt-ltb a registers_per_frame l, hb.is, hc.is, e))

  pub end-arith : {o : Op} {a b c : ℕ} {x y : ℤ} {e : Ending} → Fetch P f pc (Instr.arith o a b c) → a < registers_per_frame → Has R b (Val.int x) → Has R c (Val.int y) → arithmetic.arith o x y ≡ Err e → Step P L (at f pc R S W) (ends e W.effects)
  unfolding exec
  end-arith {a = a} {e = e} h l hb hc q = step_is (Err e) h (rw (lt-ltb a registers_per_frame l, hb.is, hc.is, q))

  pub do-eq : {a b c : ℕ} {v w : Val} → Fetch P f pc (Instr.eq a b c) → a < registers_per_frame → Has R b v → Has R c w → Step P L (at f pc R S W) (goes (at f (suc pc) (write R a (truth (equal_val v w))) S W))
  unfolding exec
  do-eq {a} h l hb hc = step_is (Ok _) h (rw (lt-ltb a registers_per_frame l, hb.is, hc.is))

  pub do-ordered : {o : Order} {a b c : ℕ} {x y : ℤ} → Fetch P f pc (Instr.ordered o a b c) → a < registers_per_frame → Has R b (Val.int x) → Has R c (Val.int y) → Step P L (at f pc R S W) (goes (at f (suc pc) (write R a (truth (in_order o x y))) S W))
  unfolding exec
  do-ordered {a = a} h l hb hc = step_is (Ok _) h (rw (lt-ltb a registers_per_frame l, hb.is, hc.is))

  pub do-is_kind : {k : Kind} {a b : ℕ} {v : Val} → Fetch P f pc (Instr.is_kind k a b) → a < registers_per_frame → Has R b v → Step P L (at f pc R S W) (goes (at f (suc pc) (write R a (truth (is_of k v))) S W))
  unfolding exec
  do-is_kind {a = a} h l hb = step_is (Ok _) h (rw (lt-ltb a registers_per_frame l, hb.is))

  pub do-jmp : {n : ℤ} {p : ℕ} → Fetch P f pc (Instr.jmp n) → pos (suc pc) +ℤ n ≡ pos p → Step P L (at f pc R S W) (goes (at f p R S W))
  unfolding exec
  do-jmp h e = step_is (Ok _) h (rw e)

  pub do-if_zero : {a p : ℕ} {n : ℤ} → Fetch P f pc (Instr.if_zero a n) → Has R a (Val.int (pos 0)) → pos (suc pc) +ℤ n ≡ pos p → Step P L (at f pc R S W) (goes (at f p R S W))
  unfolding exec
  do-if_zero h ha e = step_is (Ok _) h (rw (ha.is, e))

  pub do-if_other : {a : ℕ} {n : ℤ} {v : Val} → Fetch P f pc (Instr.if_zero a n) → Has R a v → is_zero v ≡ false → Step P L (at f pc R S W) (goes (at f (suc pc) R S W))
  unfolding exec
  do-if_other h ha e = step_is (Ok _) h (rw (ha.is, e))

  pub do-rd_glob : {a g : ℕ} {v : Val} → Fetch P f pc (Instr.rd_glob a g) → a < registers_per_frame → look (Val.identifier g) W.globals ≡ Some v → Step P L (at f pc R S W) (goes (at f (suc pc) (write R a v) S W))
  unfolding exec
  do-rd_glob {a} h l e = step_is (Ok _) h (rw (lt-ltb a registers_per_frame l, e))

  pub do-wr_glob : {g a : ℕ} {v : Val} → Fetch P f pc (Instr.wr_glob g a) → Has R a v → holds_global g W.globals ≡ true → Step P L (at f pc R S W) (goes (at f (suc pc) R S (with_globals (put (Val.identifier g) v W.globals) W)))
  unfolding exec
  do-wr_glob h ha e = step_is (Ok _) h (rw (ha.is, e))

  pub do-mk_tab : {a : ℕ} → Fetch P f pc (Instr.mk_tab a) → a < registers_per_frame → length W.tables < L.tables → Step P L (at f pc R S W) (goes (at f (suc pc) (write R a (Val.location (length W.tables))) S (with_tables (W.tables ++ [] ∷ []) W)))
  unfolding exec
  do-mk_tab {a} h l e = step_is (Ok _) h (rw (lt-ltb a registers_per_frame l, lt-ltb (length W.tables) L.tables e))

  pub end-mk_tab : {a : ℕ} → Fetch P f pc (Instr.mk_tab a) → a < registers_per_frame → L.tables ≤ length W.tables → Step P L (at f pc R S W) (ends NoTableSpace W.effects)
  unfolding exec
  end-mk_tab {a} h l e = step_is (Err NoTableSpace) h (rw (lt-ltb a registers_per_frame l, le-ltb (length W.tables) L.tables e))

  pub do-rd_tab : {a b c l : ℕ} {k v : Val} → Fetch P f pc (Instr.rd_tab a b c) → a < registers_per_frame → Has R b (Val.location l) → l < length W.tables → Has R c k → store.read W.tables l k ≡ Some v → Step P L (at f pc R S W) (goes (at f (suc pc) (write R a v) S W))
  unfolding exec
  do-rd_tab {a} {l = l} h u hb t hc e = step_is (Ok _) h (rw (lt-ltb a registers_per_frame u, hb.is, lt-ltb l (length W.tables) t, hc.is, e))

  pub do-wr_tab : {a b c l : ℕ} {k v : Val} → Fetch P f pc (Instr.wr_tab a b c) → Has R a (Val.location l) → l < length W.tables → Has R b k → Has R c v → takes L.pairs W.tables l k ≡ true → Step P L (at f pc R S W) (goes (at f (suc pc) R S (with_tables (store.write W.tables l k v) W)))
  unfolding exec
  do-wr_tab {l = l} h ha t hb hc e = step_is (Ok _) h (rw (ha.is, lt-ltb l (length W.tables) t, hb.is, hc.is, e))

  pub end-wr_tab : {a b c l : ℕ} {k v : Val} → Fetch P f pc (Instr.wr_tab a b c) → Has R a (Val.location l) → l < length W.tables → Has R b k → Has R c v → takes L.pairs W.tables l k ≡ false → Step P L (at f pc R S W) (ends NoTableSpace W.effects)
  unfolding exec
  end-wr_tab {l = l} h ha t hb hc e = step_is (Err NoTableSpace) h (rw (ha.is, lt-ltb l (length W.tables) t, hb.is, hc.is, e))

  pub do-has_tab : {a b c l : ℕ} {k : Val} → Fetch P f pc (Instr.has_tab a b c) → a < registers_per_frame → Has R b (Val.location l) → l < length W.tables → Has R c k → Step P L (at f pc R S W) (goes (at f (suc pc) (write R a (truth (is_some (store.read W.tables l k)))) S W))
  unfolding exec
  do-has_tab {a} {l = l} h u hb t hc = step_is (Ok _) h (rw (lt-ltb a registers_per_frame u, hb.is, lt-ltb l (length W.tables) t, hc.is))

  -- a function of the machine itself answers within the step
  pub do-builtin : {a first last g : ℕ} {b : Builtin} {vs : List Val} {v : Val} {o : Effects} → Fetch P f pc (Instr.call a first last) → Has R a (Val.identifier g) → Hold R first vs → suc last - first ≡ length vs → builtin_of g ≡ Some b → apply b vs W.effects ≡ Ok (v, o) → Step P L (at f pc R S W) (goes (at f (suc pc) (write R first v) S (with_effects o W)))
  unfolding exec
  do-builtin h ha hs n e r = step_is (Ok _) h (rw (ha.is, n, values-held hs, e, r))

  pub end-builtin : {a first last g : ℕ} {b : Builtin} {vs : List Val} {e : Ending} → Fetch P f pc (Instr.call a first last) → Has R a (Val.identifier g) → Hold R first vs → suc last - first ≡ length vs → builtin_of g ≡ Some b → apply b vs W.effects ≡ Err e → Step P L (at f pc R S W) (ends e W.effects)
  unfolding exec
  end-builtin {e = e} h ha hs n q r = step_is (Err e) h (rw (ha.is, n, values-held hs, q, r))

  pub do-call : {a first last g : ℕ} {vs : List Val} → Fetch P f pc (Instr.call a first last) → Has R a (Val.identifier g) → Hold R first vs → suc last - first ≡ length vs → builtin_of g ≡ None → suc (length S) < most_frames → Step P L (at f pc R S W) (goes (at g 0 (passed vs) (frame f pc R ∷ S) W))
  unfolding exec
  do-call h ha hs n e l = step_is (Ok _) h (rw (ha.is, n, values-held hs, e, lt-ltb (suc (length S)) most_frames l))

  pub end-call : {a first last g : ℕ} {vs : List Val} → Fetch P f pc (Instr.call a first last) → Has R a (Val.identifier g) → Hold R first vs → suc last - first ≡ length vs → builtin_of g ≡ None → most_frames ≤ suc (length S) → Step P L (at f pc R S W) (ends NoFrameSpace W.effects)
  unfolding exec
  end-call h ha hs n e l = step_is (Err NoFrameSpace) h (rw (ha.is, n, values-held hs, e, le-ltb (suc (length S)) most_frames l))

  -- the caller's instruction says which register takes the answer
  pub do-ret : {a b first last g pc' : ℕ} {R' : Registers} {S' : List Frame} {v : Val} → Fetch P f pc (Instr.ret a) → Has R a v → S ≡ frame g pc' R' ∷ S' → Fetch P g pc' (Instr.call b first last) → first < registers_per_frame → Step P L (at f pc R S W) (goes (at g (suc pc') (write R' first v) S' W))
  unfolding exec
  do-ret {first = first} h ha e hc l = step_is (Ok _) h (rw (ha.is, e, hc.is, lt-ltb first registers_per_frame l))

  -- the run has its value
  pub end-ret : {a : ℕ} {v : Val} → Fetch P f pc (Instr.ret a) → Has R a v → S ≡ [] → Step P L (at f pc R S W) (ends Finished W.effects)
  unfolding exec
  end-ret h ha e = step_is (Err Finished) h (rw (ha.is, e))

  pub end-halt : {a : ℕ} {v : Val} → Fetch P f pc (Instr.halt a) → Has R a v → Step P L (at f pc R S W) (ends (halted v) W.effects)
  unfolding exec
  end-halt {v = v} h ha = step_is (Err (halted v)) h (rw ha.is)
