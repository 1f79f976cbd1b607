-- The end of a run: the value's to_s, the test of its answer, the print. Assumes nothing.
use Rattle.std.proofs.Common.{◌≡◌, ℕ, suc, ◌+◌, ◌<◌, true, false, List, [], ◌∷◌, pos, Ok, Err, codes, refl, subst, arith}
use Rattle.store.specs.Val.{Val}
use Rattle.store.specs.Tables.{Table}
use Rattle.machine.specs.declared.ending.Ending.{Ending}
use Rattle.machine.specs.declared.builtin.Builtin.TheVariants.{PrintValue}
use Rattle.machine.specs.declared.instruction.Kind.TheVariants.{Text}
use Rattle.machine.specs.Limits.{Limits, registers_per_frame}
use Rattle.machine.specs.Outcome.{Outcome}
use Rattle.machine.specs.Effects.{Effects, print}
use Rattle.machine.specs.Builtin.{builtin_number, apply, string_in}
use Rattle.machine.specs.Instr.{Instr, Program}
use Rattle.machine.specs.Operands.{truth}
use Rattle.machine.specs.State.{Registers, at, write}
use Rattle.machine.proofs.Judge.{Has, none, more, Fetch}
use Rattle.machine.proofs.Exec.{do-const, do-mov, do-is_kind, do-jmp, do-if_zero, do-if_other, do-builtin, end-builtin, end-halt, forward}
use Rattle.rube.specs.Classes.{Classes}
use Rattle.rube.specs.Heap.{Heap, class_of}
use Rattle.rube.specs.Evaluation.{State, ◌>>=◌, effect, outcome}
use Rattle.rube.specs.Evaluation as evaluation
use Rattle.rube.specs.Methods.{argument}
use Rattle.rube.specs.Meaning.{Eval, close, printed, free_frames}
use Rattle.compiler.specs.Pieces.{number, send}
use Rattle.compiler.specs.Whole.{close_code}
use Rattle.correctness.proofs.Relation.{shift, world, Globals, Fine, integer, text, object}
use Rattle.correctness.proofs.Segments.{Seg, split, seg-end, head, tail, last}
use Rattle.correctness.proofs.Following.{Sim, bind-with, count-then, step_then, done, ending}
use Rattle.correctness.proofs.Endings.{print-legal}
use Rattle.correctness.proofs.Registers.{has-written, has_other}
use Rattle.correctness.proofs.Judged.{Pre, scratch}
use Rattle.correctness.proofs.Classed.{one, two}
use Rattle.correctness.proofs.Calls.{Callables, send-then}
use Rattle.correctness.proofs.Forms.{setting}

-- the register holds something
pub record Set (R : Registers) (t : ℕ) : Type 0 where
  pub value : Val
  pub is : Has R t value

-- the built-in print of one string: it answers 0, or ends as the print does
print-answers : (w : List ℕ) (o p : Effects) → print w o ≡ Ok p → apply PrintValue (Val.string w ∷ []) o ≡ Ok (Val.int (pos 0), p)
unfolding apply
print-answers w o p h = rw h refl

print-refused : (w : List ℕ) (o : Effects) (e : Ending) → print w o ≡ Err e → apply PrintValue (Val.string w ∷ []) o ≡ Err e
unfolding apply
print-refused w o e h = rw h refl

module _ {A : Type 0} (P : Classes A) (L : Limits) (C : Program) (G : Table) (globals : Globals P G) (k : ℕ) (again : Eval A) where
  abbrev Last : ℕ → List Instr
  Last t =
      Instr.is_kind Text (suc t) t
      ∷ Instr.if_zero (suc t) (pos 1)
      ∷ Instr.jmp (pos 2)
      ∷ Instr.const (suc t) (number 6)
      ∷ Instr.halt (suc t)
      ∷ Instr.const (suc t) (Val.identifier (builtin_number PrintValue))
      ∷ Instr.call (suc t) t t
      ∷ Instr.ret t
      ∷ []

  -- the register of the run's answer holds something
  abbrev pub Answered : ℕ → Unit {0} → State → Registers → Type 0
  Answered t u s R = Set R t

  -- the string is printed, or there is no space for it
  print-then : {f p t c : ℕ} {R : Registers} (s : State) (w : List ℕ) (x : Outcome Effects)
      → print w s.effects ≡ x → Fetch C f p (Instr.call (suc t) t t) → Has R (suc t) (Val.identifier (builtin_number PrintValue)) → Has R t (Val.string w)
      → Sim P C L G (suc k) (at f p R [] (world P G s)) (suc c) s.counted f (suc p) [] (Answered t) (effect x s)
  print-then {t = t} {R = R} s w (Ok o) e g i h =
      step_then (do-builtin g i (more h none) (omega arith) refl (print-answers w s.effects o e))
      (done refl (record { value = Val.int (pos 0); is = has-written R t (Val.int (pos 0)) }))
  print-then {t = t} s w (Err e') e g i h =
      ending (print-legal w s.effects e' e) (end-builtin g i (more h none) (omega arith) refl (print-refused w s.effects e' e))

  -- what to_s answered must be a string; that is printed
  last_then : {f p q q' t : ℕ} {R : Registers} (s : State) (v : Val)
      → Seg C f p (Last t) q → suc q' ≡ q → Has R t (shift P v) → Fine P s.heap v → t + 4 < registers_per_frame
      → Sim P C L G (suc k) (at f p R [] (world P G s)) 100 s.counted f q' [] (Answered t) (outcome (argument (string_in v)) s >>= printed)
  last_then {f = f} {p = p} {q' = q'} {t = t} {R = R} s (Val.string w) g e h text b =
      let R₁ = write R (suc t) (truth true) in
      let number_in = Val.identifier (builtin_number PrintValue) in
      let h₁ = has_other R (suc t) t (truth true) (λ z. omega arith) h in
      let h₂ = has_other R₁ (suc t) t number_in (λ z. omega arith) h₁ in
      let at-end : q' ≡ suc (suc (suc (suc (suc (suc (suc p)))))) = omega (arith, seg-end g) in
      step_then (do-is_kind (head g) (omega arith) h)
      (step_then (do-if_other (head (tail g)) (has-written R (suc t) (truth true)) refl)
      (step_then (do-jmp (head (tail (tail g))) (forward _ _ _ (two _)))
      (step_then (do-const (head (tail (tail (tail (tail (tail g)))))) (omega arith))
      (count-then
      (rw at-end (print-then (evaluation.count s) w _ refl (head (tail (tail (tail (tail (tail (tail g))))))) (has-written R₁ (suc t) number_in) h₂))))))
  last_then {t = t} {R = R} s (Val.int n) g e h integer b =
      let R₁ = write R (suc t) (truth false) in
      step_then (do-is_kind (head g) (omega arith) h)
      (step_then (do-if_zero (head (tail g)) (has-written R (suc t) (truth false)) (forward _ _ _ (one _)))
      (step_then (do-const (head (tail (tail (tail g)))) (omega arith))
      (ending refl (end-halt (head (tail (tail (tail (tail g))))) (has-written R₁ (suc t) (number 6))))))
  last_then {t = t} {R = R} s (Val.location l) g e h (object i n) b =
      let R₁ = write R (suc t) (truth false) in
      step_then (do-is_kind (head g) (omega arith) h)
      (step_then (do-if_zero (head (tail g)) (has-written R (suc t) (truth false)) (forward _ _ _ (one _)))
      (step_then (do-const (head (tail (tail (tail g)))) (omega arith))
      (ending refl (end-halt (head (tail (tail (tail (tail g))))) (has-written R₁ (suc t) (number 6))))))
  last_then s (Val.identifier i) g e h w b = elim w [ ]

  -- the closing code up to its return follows the close
  pub close-then : Callables P L C G globals k again → {f p q q' t : ℕ} {ns : List (List ℕ)} {me : Val} {R₀ : Registers} {H₀ : Heap} {R : Registers} (s : State) (v : Val)
      → Seg C f p (close_code P t) q → suc q' ≡ q → Pre P L ns me free_frames t [] R₀ H₀ R s → Has R t (shift P v) → Fine P s.heap v → t + 4 < registers_per_frame
      → Sim P C L G (suc k) (at f p R [] (world P G s)) 300 s.counted f q' [] (Answered t) (close (setting P L C G globals k again) again v s)
  close-then cs {t = t} {R = R} s v g e h i w b =
      let y = split (send P t (codes "to_s") 0) (Last t) (tail g) in
      step_then (do-mov (head g) (omega arith) i)
      (bind-with {c = 100} (omega arith)
      (send-then P L C G globals k again s v [] (codes "to_s") free_frames 0 (λ f' z. cs (class_of s.heap v) (codes "to_s") f' z) refl refl
      (scratch P L (suc t) (shift P v) (omega arith) h) w tt (omega arith) (has-written R (suc t) (shift P v)) none y.left)
      (λ u s' R' φ. last_then s' u y.right e φ.got φ.fine b))

  -- its last instruction returns
  pub close-returns : {f p q q' t : ℕ} → Seg C f p (close_code P t) q → suc q' ≡ q → Fetch C f q' (Instr.ret t)
  close-returns {f = f} {q = q} {q' = q'} {t = t} g e =
      let y = split (send P t (codes "to_s") 0) (Last t) (tail g) in
      let z = tail (tail (tail (tail (tail (tail (tail y.right)))))) in
      let l = last z in
      subst (λ i. Fetch C f i (Instr.ret t)) (omega arith) (head z)
