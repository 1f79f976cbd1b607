-- The class of a value, read from tables; fields of self. Assumes nothing.
use Rattle.std.proofs.Common.{◌≡◌, ℕ, suc, ◌+◌, ◌<◌, ◌≤◌, true, false, ◌≢◌, List, Some, codes, sym, refl, ◌∙◌, arith}
use Rattle.store.specs.Val.{Val}
use Rattle.store.specs.Tables.{Table, look, put}
use Rattle.store.specs.Tables as store
use Rattle.machine.specs.Limits.{Limits, registers_per_frame}
use Rattle.machine.specs.Instr.{Program}
use Rattle.machine.specs.Operands.{truth}
use Rattle.machine.specs.State.{Registers, Frame, at, write}
use Rattle.machine.proofs.Judge.{Has}
use Rattle.machine.proofs.Registers.{read-other}
use Rattle.machine.proofs.Exec.{do-const, do-jmp, do-if_zero, do-if_other, do-rd_glob, do-rd_tab, do-is_kind, forward}
use Rattle.rube.specs.Classes.{Classes, class_names, class_count}
use Rattle.rube.specs.Heap.{Heap, class_of}
use Rattle.rube.specs.Evaluation.{State, Res}
use Rattle.compiler.specs.Layout.{class_key, place_in}
use Rattle.compiler.specs.Pieces.{class_into}
use Rattle.correctness.proofs.Relation.{shift, tables_of, world, Globals, Fine, integer, text, object}
use Rattle.correctness.proofs.Segments.{Seg, seg-end, head, tail, last}
use Rattle.correctness.proofs.Following.{Sim, step_then, slack}
use Rattle.correctness.proofs.Registers.{has-written, has_other}
use Rattle.correctness.proofs.Returning.{Except}
use Rattle.correctness.proofs.Tabled.{object-table-here, read-object-class}

pub one : (n : ℕ) → n + 1 ≡ suc n
one n = omega arith

pub two : (n : ℕ) → n + 2 ≡ suc (suc n)
two n = omega arith

-- two writes to one register change only that
pub except-two : (R : Registers) (d : ℕ) (v w : Val) → Except d R (write (write R d v) d w)
except-two R d v w = record { same = λ i n. read-other (write R d v) d i w (λ e. n (sym e)) ∙ read-other R d i v (λ e. n (sym e)) }

pub except-one : (R : Registers) (d : ℕ) (v : Val) → Except d R (write R d v)
except-one R d v = record { same = λ i n. read-other R d i v (λ e. n (sym e)) }

pub except-then : {d : ℕ} {R R' R'' : Registers} → Except d R R' → Except d R' R'' → Except d R R''
except-then x y = record { same = λ i n. y.same i n ∙ x.same i n }

module _ {A : Type 0} (P : Classes A) (L : Limits) (C : Program) (G : Table) (globals : Globals P G) where
  abbrev pub class_at : Heap → Val → Val
  class_at H v = Val.location (place_in (class_names P) (class_of H v))

  abbrev read-class-of : Heap → ℕ → Val → Type 0
  read-class-of H i l = store.read (tables_of P H) (class_count P + i) class_key ≡ Some l

  -- the class table of what r holds goes into d, in ten steps at most
  pub class-then : {X : Type 0} {Φ : X → State → Registers → Type 0} {k c c' n f p q' q r d : ℕ} {S : List Frame} {R : Registers} {x : Res X} (s : State) (v : Val)
      → 10 + c ≤ c' → Fine P s.heap v → d < registers_per_frame → r ≢ d → Seg C f p (class_into P d r) q' → Has R r (shift P v)
      → ((R' : Registers) → Except d R R' → Has R' d (class_at s.heap v) → Sim P C L G k (at f q' R' S (world P G s)) c n f q S Φ x)
      → Sim P C L G k (at f p R S (world P G s)) c' n f q S Φ x
  class-then {c' = c'} {d = d} {R = R} s (Val.int i) z integer b a g h κ =
      let l = Val.location (place_in (class_names P) (codes "Integer")) in
      slack c' (omega arith) (step_then (do-is_kind (head g) b h)
      (step_then (do-if_other (head (tail g)) (has-written R d (truth true)) refl)
      (step_then (do-rd_glob (head (tail (tail g))) b (globals.classes (codes "Integer") refl))
      (step_then (do-jmp (head (tail (tail (tail g)))) (forward _ _ _ (omega (arith, seg-end g))))
      (κ _ (except-two R d (truth true) l) (has-written (write R d (truth true)) d l))))))
  class-then {c' = c'} {d = d} {R = R} s (Val.string t) z text b a g h κ =
      let l = Val.location (place_in (class_names P) (codes "String")) in
      let R₁ = write R d (truth false) in
      let R₂ = write R₁ d (truth true) in
      let still = has_other R d _ (truth false) (λ e. a (sym e)) h in
      slack c' (omega arith) (step_then (do-is_kind (head g) b h)
      (step_then (do-if_zero (head (tail g)) (has-written R d (truth false)) (forward _ _ _ (two _)))
      (step_then (do-is_kind (head (tail (tail (tail (tail g))))) b still)
      (step_then (do-if_other (head (tail (tail (tail (tail (tail g)))))) (has-written R₁ d (truth true)) refl)
      (step_then (do-rd_glob (head (tail (tail (tail (tail (tail (tail g))))))) b (globals.classes (codes "String") refl))
      (step_then (do-jmp (head (tail (tail (tail (tail (tail (tail (tail g)))))))) (forward _ _ _ (omega (arith, seg-end g))))
      (κ _ (except-then (except-two R d (truth false) (truth true)) (except-one R₂ d l)) (has-written R₂ d l))))))))
  class-then {c = c} {c' = c'} {d = d} {R = R} s (Val.location i) z (object e k) b a g h κ =
      let R₁ = write R d (truth false) in
      let R₂ = write R₁ d (truth false) in
      let R₃ = write R₂ d class_key in
      let still = has_other R d _ (truth false) (λ y. a (sym y)) h in
      let still₂ = has_other R₁ d _ (truth false) (λ y. a (sym y)) still in
      let still₃ = has_other R₂ d _ class_key (λ y. a (sym y)) still₂ in
      let l = class_at s.heap (Val.location i) in
      let is : read-class-of s.heap i l = rw e (read-object-class P s.heap i e) in
      slack {c = suc (suc (suc (suc (suc (suc c)))))} c' (omega arith) (step_then (do-is_kind (head g) b h)
      (step_then (do-if_zero (head (tail g)) (has-written R d (truth false)) (forward _ _ _ (two _)))
      (step_then (do-is_kind (head (tail (tail (tail (tail g))))) b still)
      (step_then (do-if_zero (head (tail (tail (tail (tail (tail g)))))) (has-written R₁ d (truth false)) (forward _ _ _ (two _)))
      (step_then (do-const (head (tail (tail (tail (tail (tail (tail (tail (tail g))))))))) b)
      (step_then (do-rd_tab (head (tail (tail (tail (tail (tail (tail (tail (tail (tail g)))))))))) b still₃ (object-table-here P s.heap i e) (has-written R₂ d class_key) is)
      (rw (last (tail (tail (tail (tail (tail (tail (tail (tail (tail g))))))))))
      (κ _ (except-then (except-two R d (truth false) (truth false)) (except-two R₂ d class_key l)) (has-written R₃ d l)))))))))
  class-then s (Val.identifier i) z w b a g h κ = elim w [ ]
