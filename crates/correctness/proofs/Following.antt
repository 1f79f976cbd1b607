-- What it is that the machine follows the meaning, and how such facts are joined. Assumes nothing.
use Rattle.std.proofs.Common.{◌≡◌, ℕ, suc, ◌+◌, ◌*◌, ◌≤◌, Bool, true, leb, List, arith}
use Rattle.store.specs.Tables.{Table}
use Rattle.machine.specs.declared.ending.Ending.{Ending}
use Rattle.machine.specs.Ending.{number_of}
use Rattle.machine.specs.Limits.{Limits}
use Rattle.machine.specs.Instr.{Program}
use Rattle.machine.specs.State as machine
use Rattle.machine.specs.State.{Registers, Frame, at, Next, goes, ends}
use Rattle.machine.proofs.Judge.{Step, Run}
use Rattle.machine.proofs.Runs.{run-add, run_none, run-one}
use Rattle.rube.specs.Classes.{Classes}
use Rattle.rube.specs.Evaluation.{State, Res, val, end, out, ◌>>=◌}
use Rattle.correctness.proofs.Relation.{world}

-- the endings of the language, 0 to 12
abbrev pub legal : Ending → Bool
legal e = leb (number_of e) 12

-- From m the machine follows the result: it comes to (f, q, S) with what Φ says, or to the same ending, in as many steps as
-- 128 for each rule counted since n, and c more; or, where the clock ran out, it makes k steps and has not ended
pub data Sim {A X : Type 0} (P : Classes A) (C : Program) (L : Limits) (G : Table) (k : ℕ) (m : machine.State) (c n f q : ℕ) (S : List Frame) (Φ : X → State → Registers → Type 0) : Res X → Type 0 where
  sval : {v : X} {s : State} (j : ℕ) (R : Registers) → Run C L j m (goes (at f q R S (world P G s))) → j + 128 * n ≤ 128 * s.counted + c → Φ v s R → Sim P C L G k m c n f q S Φ (val v s)
  send : {e : Ending} {s : State} (j : ℕ) → Run C L j m (ends e s.effects) → j + 128 * n ≤ 128 * s.counted + c → legal e ≡ true → Sim P C L G k m c n f q S Φ (end e s)
  sout : (j : ℕ) (m' : machine.State) → Run C L j m (goes m') → k ≤ j → Sim P C L G k m c n f q S Φ out

module _ {A X : Type 0} {P : Classes A} {C : Program} {L : Limits} {G : Table} {f q : ℕ} {S : List Frame} {Φ : X → State → Registers → Type 0} where
  -- j steps, and then what follows
  pub after : {k k' c c' n n' : ℕ} {m m' : machine.State} {x : Res X} (j : ℕ) → Run C L j m (goes m') → k ≤ j + k' → j + 128 * n + c' ≤ 128 * n' + c → Sim P C L G k' m' c' n' f q S Φ x → Sim P C L G k m c n f q S Φ x
  after j h a b (sval i R g l φ) = sval (j + i) R (run-add h g) (omega arith) φ
  after j h a b (send i g l e) = send (j + i) (run-add h g) (omega arith) e
  after j h a b (sout i m'' g l) = sout (j + i) m'' (run-add h g) (omega arith)

  -- a rule is counted: 128 steps to spend (what was left is let go)
  pub count-then : {k c n : ℕ} {m : machine.State} {x : Res X} → Sim P C L G k m 128 (suc n) f q S Φ x → Sim P C L G k m c n f q S Φ x
  count-then h = after 0 run_none (omega arith) (omega arith) h

  pub step_then : {k c n : ℕ} {m m' : machine.State} {x : Res X} → Step C L m (goes m') → Sim P C L G k m' c n f q S Φ x → Sim P C L G k m (suc c) n f q S Φ x
  step_then e h = after 1 (run-one e) (omega arith) (omega arith) h

  -- a step that the clock counts
  pub loop-then : {k c n : ℕ} {m m' : machine.State} {x : Res X} → Step C L m (goes m') → Sim P C L G k m' c n f q S Φ x → Sim P C L G (suc k) m (suc c) n f q S Φ x
  loop-then e h = after 1 (run-one e) (omega arith) (omega arith) h

  -- less clock, and more to spend
  pub slack : {k n c : ℕ} {m : machine.State} {x : Res X} (d : ℕ) → c ≤ d → Sim P C L G k m c n f q S Φ x → Sim P C L G k m d n f q S Φ x
  slack d b h = after 0 run_none (omega arith) (omega arith) h

  pub done : {k c p : ℕ} {v : X} {s : State} {R : Registers} → p ≡ q → Φ v s R → Sim P C L G k (at f p R S (world P G s)) c s.counted f q S Φ (val v s)
  done {s = s} {R = R} e φ = sval 0 R (rw e run_none) (omega arith) φ

  pub ending : {k c : ℕ} {e : Ending} {s : State} {m : machine.State} → legal e ≡ true → Step C L m (ends e s.effects) → Sim P C L G k m (suc c) s.counted f q S Φ (end e s)
  ending e h = send 1 (run-one h) (omega arith) e

-- a part's value, and then what follows; endings and want of clock go through
pub bind : {A X Y : Type 0} {P : Classes A} {C : Program} {L : Limits} {G : Table} {f q f' q' : ℕ} {S S' : List Frame} {Φ : X → State → Registers → Type 0} {Ψ : Y → State → Registers → Type 0} {k c n : ℕ} {m : machine.State} {x : Res X} {g : X → State → Res Y}
    → Sim P C L G k m 0 n f q S Φ x → ((v : X) (s : State) (R : Registers) → Φ v s R → Sim P C L G k (at f q R S (world P G s)) c s.counted f' q' S' Ψ (g v s)) → Sim P C L G k m c n f' q' S' Ψ (x >>= g)
bind (sval {v = v} {s = s} j R h b φ) κ = after j h (omega arith) (omega arith) (κ v s R φ)
bind (send j h b e) κ = send j h (omega arith) e
bind (sout j m' h b) κ = sout j m' h b

-- steps after an answer
pub finish : {A X : Type 0} {P : Classes A} {C : Program} {L : Limits} {G : Table} {f q f' q' : ℕ} {S S' : List Frame} {Φ Ψ : X → State → Registers → Type 0} {k c n : ℕ} {m : machine.State} {x : Res X}
    → Sim P C L G k m 0 n f q S Φ x → ((v : X) (s : State) (R : Registers) → Φ v s R → Sim P C L G k (at f q R S (world P G s)) c s.counted f' q' S' Ψ (val v s)) → Sim P C L G k m c n f' q' S' Ψ x
finish (sval {v = v} {s = s} j R h b φ) κ = after j h (omega arith) (omega arith) (κ v s R φ)
finish (send j h b e) κ = send j h (omega arith) e
finish (sout j m' h b) κ = sout j m' h b

-- less may be said of an answer
pub weaken : {A X : Type 0} {P : Classes A} {C : Program} {L : Limits} {G : Table} {f q : ℕ} {S : List Frame} {Φ Ψ : X → State → Registers → Type 0} {k c n : ℕ} {m : machine.State} {x : Res X}
    → ((v : X) (s : State) (R : Registers) → Φ v s R → Ψ v s R) → Sim P C L G k m c n f q S Φ x → Sim P C L G k m c n f q S Ψ x
weaken κ (sval j R h b φ) = sval j R h b (κ _ _ _ φ)
weaken κ (send j h b e) = send j h b e
weaken κ (sout j m' h b) = sout j m' h b

-- the same, with steps left to spend on the part
pub bind-with : {A X Y : Type 0} {P : Classes A} {C : Program} {L : Limits} {G : Table} {f q f' q' : ℕ} {S S' : List Frame} {Φ : X → State → Registers → Type 0} {Ψ : Y → State → Registers → Type 0} {k a c d n : ℕ} {m : machine.State} {x : Res X} {g : X → State → Res Y}
    → a + c ≤ d → Sim P C L G k m a n f q S Φ x → ((v : X) (s : State) (R : Registers) → Φ v s R → Sim P C L G k (at f q R S (world P G s)) c s.counted f' q' S' Ψ (g v s)) → Sim P C L G k m d n f' q' S' Ψ (x >>= g)
bind-with l (sval {v = v} {s = s} j R h b φ) κ = after j h (omega arith) (omega arith) (κ v s R φ)
bind-with l (send j h b e) κ = send j h (omega arith) e
bind-with l (sout j m' h b) κ = sout j m' h b

pub finish_with : {A X : Type 0} {P : Classes A} {C : Program} {L : Limits} {G : Table} {f q f' q' : ℕ} {S S' : List Frame} {Φ Ψ : X → State → Registers → Type 0} {k a c d n : ℕ} {m : machine.State} {x : Res X}
    → a + c ≤ d → Sim P C L G k m a n f q S Φ x → ((v : X) (s : State) (R : Registers) → Φ v s R → Sim P C L G k (at f q R S (world P G s)) c s.counted f' q' S' Ψ (val v s)) → Sim P C L G k m d n f' q' S' Ψ x
finish_with l (sval {v = v} {s = s} j R h b φ) κ = after j h (omega arith) (omega arith) (κ v s R φ)
finish_with l (send j h b e) κ = send j h (omega arith) e
finish_with l (sout j m' h b) κ = sout j m' h b
