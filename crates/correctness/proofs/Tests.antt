-- Tests that compiled code makes: it goes on, or ends the run. Assumes nothing.
use Rattle.std.proofs.Common.{◌≡◌, ℕ, suc, ◌<◌, Bool, true, false, eqb, ◌≢◌, List, sym, refl, arith}
use Rattle.std.proofs.lemmas.Bool.Decides.{Decides-eqb, Decides-like, same_from_decides}
use Rattle.store.specs.Val.{equal_val}
use Rattle.store.specs.Tables.{Table}
use Rattle.machine.specs.declared.ending.Ending.TheVariants.{WrongArgumentCount}
use Rattle.machine.specs.Limits.{Limits, registers_per_frame}
use Rattle.machine.specs.Instr.{Program}
use Rattle.machine.specs.Operands.{truth}
use Rattle.machine.specs.State.{Registers, Frame, at, write}
use Rattle.machine.specs.Step.{halted}
use Rattle.machine.proofs.Judge.{Has}
use Rattle.machine.proofs.Exec.{do-const, do-eq, do-jmp, do-if_zero, do-if_other, do-rd_glob, end-halt, forward}
use Rattle.rube.specs.Classes.{Classes}
use Rattle.rube.specs.Heap as heap
use Rattle.rube.specs.Evaluation.{State, Res, unless}
use Rattle.compiler.specs.Pieces.{number, require, truth_into, count_test}
use Rattle.correctness.proofs.Relation.{shift, world, Globals}
use Rattle.correctness.proofs.Segments.{Seg, seg-end, head, tail, last}
use Rattle.correctness.proofs.Following.{Sim, legal, step_then, slack, ending}
use Rattle.correctness.proofs.Registers.{has-written, has_other}
use Rattle.correctness.proofs.Returning.{Except}
use Rattle.correctness.proofs.Classed.{except-two}

equal-numbers : (n m : ℕ) → equal_val (number n) (number m) ≡ eqb m n
unfolding equal_val
equal-numbers n m = same_from_decides _ _ (Decides-eqb n m) (Decides-like (eqb m n) sym sym (Decides-eqb m n))

module _ {A : Type 0} (P : Classes A) (L : Limits) (C : Program) (G : Table) where
  -- the code goes on where a register holds 1; else the run ends with what the number asks for
  pub require-then : {X : Type 0} {Φ : X → State → Registers → Type 0} {k c g p q f q' t n : ℕ} {S S' : List Frame} {R : Registers} {x : Res X} (s : State) (b : Bool)
      → legal (halted (number n)) ≡ true → t < registers_per_frame → Seg C g p (require t n) q → Has R t (truth b)
      → (b ≡ true → Sim P C L G k (at g q R S (world P G s)) (suc c) s.counted f q' S' Φ x)
      → Sim P C L G k (at g p R S (world P G s)) (suc (suc (suc c))) s.counted f q' S' Φ (unless (halted (number n)) b s x)
  require-then s true a l e h x =
      step_then (do-if_other (head e) h refl)
      (step_then (do-jmp (head (tail e)) (forward _ _ _ (omega (arith, seg-end e)))) (x refl))
  require-then {t = t} {n = n} {R = R} s false a l e h x =
      step_then (do-if_zero (head e) h (forward _ _ _ (omega arith)))
      (step_then (do-const (head (tail (tail e))) l) (ending a (end-halt (head (tail (tail (tail e)))) (has-written R t (number n)))))

  -- a callee that was passed as many arguments as it has parameters goes on; else the run ends
  pub count-test : {X : Type 0} {Φ : X → State → Registers → Type 0} {k c g p q f q' t n m : ℕ} {S S' : List Frame} {R : Registers} {x : Res X} (s : State)
      → t < registers_per_frame → t ≢ 0 → Has R 0 (number m) → Seg C g p (count_test t n) q
      → (m ≡ n → (R' : Registers) → Except t R R' → Sim P C L G k (at g q R' S (world P G s)) (suc c) s.counted f q' S' Φ x)
      → Sim P C L G k (at g p R S (world P G s)) (suc (suc (suc (suc (suc c))))) s.counted f q' S' Φ (unless WrongArgumentCount (eqb m n) s x)
  count-test {t = t} {n = n} {m = m} {R = R} s l z h e x =
      step_then (do-const (head e) l)
      (step_then (do-eq (head (tail e)) l (has-written R t (number n)) (has_other R t 0 (number n) z h))
      (rw (equal-numbers n m)
      (require-then s (eqb m n) refl l (tail (tail e)) (has-written (write R t (number n)) t (truth (eqb m n)))
      (λ b. x ((Decides-eqb m n).0 b) _ (except-two R t (number n) (truth (eqb m n)))))))

  -- 1 or nil into t, by a test in d
  pub truth-then : {X : Type 0} {Φ : X → State → Registers → Type 0} {k c n g p q f q' t d : ℕ} {S S' : List Frame} {R : Registers} {x : Res X} (s : State) (b : Bool)
      → Globals P G → t < registers_per_frame → Seg C g p (truth_into t d) q → Has R d (truth b)
      → Sim P C L G k (at g q (write R t (shift P (heap.truth b))) S (world P G s)) c n f q' S' Φ x
      → Sim P C L G k (at g p R S (world P G s)) (suc (suc (suc c))) n f q' S' Φ x
  truth-then s true globals l e h x =
      step_then (do-if_other (head e) h refl)
      (step_then (do-const (head (tail e)) l)
      (step_then (do-jmp (head (tail (tail e))) (forward _ _ _ (omega (arith, seg-end e)))) x))
  truth-then {c = c} s false globals l e h x =
      slack {c = suc (suc c)} (suc (suc (suc c))) (omega arith)
      (step_then (do-if_zero (head e) h (forward _ _ _ (omega arith)))
      (step_then (do-rd_glob (head (tail (tail (tail e)))) l globals.nils) (rw (last (tail (tail (tail e)))) x)))
