-- Fields written, objects made. Assumes nothing.
use Rattle.std.proofs.Common.{◌≡◌, ℕ, suc, ◌+◌, ◌<◌, ◌≤◌, Bool, true, false, List, get_or, codes, refl, ◌∙◌, arith}
use Rattle.std.specs.Str.{bytes_eq}
use Rattle.store.specs.Val.{Val}
use Rattle.store.specs.Tables.{Table}
use Rattle.machine.specs.declared.ending.Ending.TheVariants.{NoTableSpace}
use Rattle.machine.specs.Limits.{Limits, registers_per_frame}
use Rattle.machine.specs.Instr.{Program}
use Rattle.machine.specs.State.{Registers, Frame, at, write}
use Rattle.machine.proofs.Exec.{do-const, do-wr_tab, end-wr_tab}
use Rattle.grammar.specs.Tree.{Expr}
use Rattle.rube.specs.Classes.{Classes}
use Rattle.rube.specs.Heap as heap
use Rattle.rube.specs.Heap.{Heap, Cell, no_cell, fields_of, new_pairs, put_at, fits}
use Rattle.rube.specs.Evaluation.{State, val, unless, with_heap}
use Rattle.rube.specs.Meaning.{Eval, location_of, eval}
use Rattle.compiler.specs.Layout.{free}
use Rattle.compiler.specs.Body.{write_field, compile}
use Rattle.correctness.specs.Fitting.{FieldName}
use Rattle.correctness.proofs.Relation.{world, Globals, Sound, Self, self, Proper, Grows}
use Rattle.correctness.proofs.Segments.{Seg, split, head, tail, last}
use Rattle.correctness.proofs.Following.{Sim, bind, count-then, step_then, done, ending}
use Rattle.correctness.proofs.Registers.{has-written, has_other, keep-write, stand-write}
use Rattle.correctness.proofs.Returning.{fine-grows, self-grows, grows_then, all-grows}
use Rattle.correctness.proofs.Judged.{Post, first}
use Rattle.correctness.proofs.Tabled.{object-table-here, write-field}
use Rattle.correctness.proofs.Heaps.{grows-put, sound-field}
use Rattle.correctness.proofs.Space.{takes_field, fits-after-put}
use Rattle.correctness.proofs.Forms.{Ok}

module _ {A : Type 0} (P : Classes A) (L : Limits) (C : Program) (G : Table) (globals : Globals P G) where
  abbrev within : heap.Setting A
  within = record { classes = P; limits = L }

  -- a state whose heap has grown
  pub grown-proper : {me : Val} {s : State} (H' : Heap) → Proper P L me s → Sound P H' → Grows P s.heap H' → fits within H' 0 0 ≡ true → Proper P L me (with_heap H' s)
  grown-proper {s = s} H' p h g f = record { heap-fine = h; me-fine = self-grows P L g p.me-fine; locals-fine = all-grows P L s.locals g p.locals-fine; space = f }

  -- a field of self is written, if there is room for it
  set-field-then : {k f p q t l : ℕ} {ns : List (List ℕ)} {v : Val} {S : List Frame} {R₀ : Registers} {H₀ : Heap} {R : Registers} {D : List ℕ} {fs : Table} (s : State) (x : List ℕ) (b : Bool)
      → fits within s.heap 0 (new_pairs (Val.string x) (fields_of s.heap l)) ≡ b → get_or s.heap l no_cell ≡ Cell.object D fs → bytes_eq D (codes "Map") ≡ false → FieldName x
      → free ns ≤ t → t + 1 < registers_per_frame → Post P L ns (Val.location l) t R₀ H₀ v s R → Seg C f p (write_field P x t) q
      → Sim P C L G k (at f p R S (world P G s)) 128 s.counted f q S (Post P L ns (Val.location l) t R₀ H₀) (unless NoTableSpace b s (val v (with_heap (put_at s.heap l (Val.string x) v) s)))
  set-field-then {t = t} {l = l} {v = v} {R = R} s x true e o m n r b φ g =
      let R₁ = write R (suc t) (Val.string x) in
      let me = has_other R (suc t) 1 (Val.string x) (λ z. omega arith) φ.stand.me-in in
      let got = has_other R (suc t) t (Val.string x) (λ z. omega arith) φ.got in
      let takes-it = takes_field P L s.heap l x φ.proper.space o n ∙ e in
      let g' = grows-put P s.heap l (Val.string x) v in
      let H' = put_at s.heap l (Val.string x) v in
      step_then (do-const (head g) (omega arith))
      (step_then (do-wr_tab (head (tail g)) me (object-table-here P s.heap l o) (has-written R (suc t) (Val.string x)) got takes-it)
      (rw (write-field P s.heap l x v o n)
      (done (last (tail g)) (record {
        got = got;
        stand = stand-write R (suc t) (Val.string x) (omega arith) φ.stand;
        keep = keep-write R (suc t) (Val.string x) (omega arith) φ.keep;
        proper = grown-proper H' φ.proper (sound-field P l x φ.proper.heap-fine o m n φ.fine) g' (fits-after-put P L s.heap l (Val.string x) v e);
        fine = fine-grows P L g' φ.fine;
        grows = grows_then P L φ.grows g';
      }))))
  set-field-then {t = t} {l = l} {v = v} {R = R} s x false e o m n r b φ g =
      let me = has_other R (suc t) 1 (Val.string x) (λ z. omega arith) φ.stand.me-in in
      let got = has_other R (suc t) t (Val.string x) (λ z. omega arith) φ.got in
      let takes-it = takes_field P L s.heap l x φ.proper.space o n ∙ e in
      step_then (do-const (head g) (omega arith))
      (ending refl (end-wr_tab (head (tail g)) me (object-table-here P s.heap l o) (has-written R (suc t) (Val.string x)) got takes-it))

  module _ (k : ℕ) (again : Eval A) where
    pub set_field-good : (a : A) (x : List ℕ) (e : Expr A) → Ok P L C G globals k again e → Ok P L C G globals k again (Expr.set_field a x e)
    unfolding eval compile
    set_field-good a x e ge = record {
      sim = λ {ns = ns} {t = t} h b g.
          let y = split (compile P ns e t) _ g in
          count-then
          (bind (ge.sim (first P L h) b.2 y.left)
          (λ v s R φ. by s v h.room b.1 b.0 φ y.right φ.proper.me-fine));
    }
      where
        by : {ns : List (List ℕ)} {me : Val} {f p q t : ℕ} {S : List Frame} {R₀ : Registers} {H₀ : Heap} {R : Registers} (s : State) (v : Val)
            → free ns ≤ t → t + 1 < registers_per_frame → FieldName x → Post P L ns me t R₀ H₀ v s R → Seg C f p (write_field P x t) q → Self P s.heap me
            → Sim P C L G (suc k) (at f p R S (world P G s)) 128 s.counted f q S (Post P L ns me t R₀ H₀)
            (unless NoTableSpace (fits within s.heap 0 (new_pairs (Val.string x) (fields_of s.heap (location_of me)))) s (val v (with_heap (put_at s.heap (location_of me) (Val.string x) v) s)))
        by s v r b n φ g (self e' m k') = set-field-then s x _ refl e' m n r b φ g
