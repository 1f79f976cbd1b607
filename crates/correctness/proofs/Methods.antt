-- Methods that classes define: the count test, marks, the body, the return. Assumes nothing.
use Rattle.std.proofs.Common.{◌≡◌, ℕ, zero, suc, ◌+◌, ◌-◌, ◌<◌, ◌≤◌, true, eqb, ◌⊎◌, List, [], ◌∷◌, map, length, Some, refl, ◌∙◌, inl, inr, ⊎_elim, arith}
use Rattle.std.specs.List.{slice_get, AllByRecursion}
use Rattle.std.proofs.lemmas.Bool.{cases_lt}
use Rattle.store.specs.Val.{Val}
use Rattle.store.specs.Tables.{Table}
use Rattle.machine.specs.declared.ending.Ending.TheVariants.{WrongArgumentCount}
use Rattle.machine.specs.Limits.{Limits, registers_per_frame}
use Rattle.machine.specs.Instr.{Instr, Program}
use Rattle.machine.specs.State.{Registers, Frame, frame, at, read, write, passed}
use Rattle.machine.proofs.Judge.{Has, Fetch}
use Rattle.machine.proofs.Registers.{passed_reads, read-other}
use Rattle.machine.proofs.Exec.{do-const, do-ret}
use Rattle.grammar.specs.Tree.{Expr, Method}
use Rattle.rube.specs.Classes.{Callee, Classes}
use Rattle.rube.specs.Heap.{Heap, Setting}
use Rattle.rube.specs.Heap as heap
use Rattle.rube.specs.Evaluation.{State, Res, unless, with_locals}
use Rattle.rube.specs.Evaluation as evaluation
use Rattle.rube.specs.Meaning.{Eval, bind as bound, enter}
use Rattle.compiler.specs.Layout.{mark, slots, free}
use Rattle.compiler.specs.Pieces.{number, count_test, marks}
use Rattle.compiler.specs.Body.{body_code, method_code}
use Rattle.correctness.specs.Fitting.{Fit}
use Rattle.correctness.proofs.Relation.{shift, world, Globals, Fine, Sound, Self}
use Rattle.correctness.proofs.Lookup.{nth-below}
use Rattle.correctness.proofs.Segments.{Seg, split, head, tail}
use Rattle.correctness.proofs.Following.{Sim, bind, count-then, step_then, slack, done}
use Rattle.correctness.proofs.Registers.{has-written, keep_same}
use Rattle.std.proofs.lemmas.List.{length-append}
use Rattle.correctness.proofs.Slots.{enters, slots-begin}
use Rattle.correctness.proofs.Tests.{count-test}
use Rattle.correctness.proofs.Forms.{fit-below}
use Rattle.correctness.proofs.Returning.{has-except, grows_same, Back}
use Rattle.correctness.proofs.Judged.{Good}
use Rattle.correctness.proofs.Calls.{block}

module _ {A : Type 0} (P : Classes A) (L : Limits) (C : Program) (G : Table) where
  -- what the marks leave: the registers from r on hold marks, the others are as they were
  pub record Marked (r n : ℕ) (R R' : Registers) : Type 0 where
    pub marked : (i : ℕ) → r ≤ i → i < r + n → Has R' i mark
    pub rest : (i : ℕ) → (i < r) ⊎ (r + n ≤ i) → read R' i ≡ read R i

  marks_then : {X : Type 0} {Φ : X → State → Registers → Type 0} {k c g p q' f q : ℕ} {S S' : List Frame} {y : Res X} (s : State) (r n : ℕ) (R : Registers)
      → r + n ≤ registers_per_frame → Seg C g p (marks r n) q'
      → ((R' : Registers) → Marked r n R R' → Sim P C L G k (at g q' R' S (world P G s)) c s.counted f q S' Φ y)
      → Sim P C L G k (at g p R S (world P G s)) (n + c) s.counted f q S' Φ y
  marks_then {c = c} s r zero R b g κ =
      rw g.is (slack (zero + c) (omega arith) (κ R (record { marked = λ i l u. absurd (omega arith); rest = λ i h. refl })))
  marks_then {c = c} s r (suc n) R b g κ =
      let R₁ = write R r mark in
      slack {c = suc (n + c)} (suc n + c) (omega arith)
      (step_then (do-const (head g) (omega arith))
      (marks_then s (suc r) n R₁ (omega arith) (tail g)
      (λ R' m. κ R' (record {
        marked = λ i l u. ⊎_elim (λ (h : i < suc r). let e : i ≡ r = omega arith in record { is = m.rest i (inl h) ∙ rw e (has-written R r mark).is }) (λ h. m.marked i h (omega arith)) (cases_lt i (suc r));
        rest = λ i h. m.rest i (⊎_elim (λ x. inl (omega arith)) (λ x. inr (omega arith)) h) ∙ read-other R r i mark (λ e. ⊎_elim (λ x. omega arith) (λ x. omega arith) h);
      }))))

  all-bound : (H : Heap) (ps : List (List ℕ)) (vs : List Val) → AllByRecursion (Fine P H) vs → AllByRecursion (λ p. Fine P H p.1) (bound ps vs)
  all-bound H [] vs a = tt
  all-bound H (x ∷ ps) [] a = tt
  all-bound H (x ∷ ps) (v ∷ vs) a = (a.0, all-bound H ps vs a.1)

  nth-shifted : (vs : List Val) (i : ℕ) (v : Val) → slice_get vs i ≡ Some v → slice_get (map (shift P) vs) i ≡ Some (shift P v)
  nth-shifted [] i v e = cc
  nth-shifted (u ∷ vs) zero v e = cc
  nth-shifted (u ∷ vs) (suc i) v e = nth-shifted vs i v e

  two-more : (j : ℕ) → 2 + j ≡ suc (suc j)
  two-more j = omega arith

  module _ (globals : Globals P G) (k : ℕ) (again : Eval A) where
    abbrev setting : Setting A
    setting = record { classes = P; limits = L }

    passed-has : (r : Val) (vs : List Val) (i : ℕ) (w : Val) → slice_get (block P L C G globals k again r vs) i ≡ Some w → Has (passed (block P L C G globals k again r vs)) i w
    passed-has r vs i w e = record { is = passed_reads (block P L C G globals k again r vs) i ∙ e }

    pub written_then : {f pc t a last q : ℕ} {S : List Frame} {R : Registers} (s : State) (r : Val) (vs : List Val) (d i : ℕ) (m : Method A)
        → ((e : Expr A) → Good P L C G k again e) → Fit (slots m.parameters m.body) m.body (free (slots m.parameters m.body))
        → Seg C (18 + i) 0 (method_code P m) q
        → Fetch C f pc (Instr.call a t last) → t < registers_per_frame → d + suc (length S) ≡ 31
        → Self P s.heap r → AllByRecursion (Fine P s.heap) vs → Sound P s.heap → heap.fits setting s.heap 0 0 ≡ true
        → Sim P C L G k (at (18 + i) 0 (passed (block P L C G globals k again r vs)) (frame f pc R ∷ S) (world P G s)) 20 s.counted f (suc pc) S (Back P L R t s)
        (unless WrongArgumentCount (eqb (length vs) (length m.parameters)) s (enter setting again d (Callee.written i m) r vs s))
    unfolding method_code
    written_then {t = t} {S = S} {R = R} s r vs d i m rec fit g call u frames me ws heap-sound space =
        let ps = m.parameters in
        let e = m.body in
        let ns = slots ps e in
        let T = free ns in
        let x = split (count_test T (length ps)) _ g in
        let y = split (body_code P ps e) _ x.right in
        let z = split (marks (2 + length ps) (length ns - length ps)) _ y.left in
        let begins = slots-begin ps e in
        let long : length ps ≤ length ns = rw begins.1 (simp length-append (omega arith)) in
        let T-below = fit-below ns e T fit in
        let s₁ = with_locals (bound ps vs) (evaluation.count s) in
        count-test P L C G s T-below (λ w. omega arith) (passed-has r vs 0 (number (length vs)) refl) x.left
        (λ n R₁ ex. count-then (slack {c = length ns - length ps + 1} 128 (omega arith)
        (marks_then s₁ (2 + length ps) (length ns - length ps) R₁ (omega arith) z.left
        (λ R₂ mk.
        bind ((rec e).sim (record {
          room = omega arith;
          frames = frames;
          stand = enters ps e r vs R₂ n
              (record { is = mk.rest 1 (inl (omega arith)) ∙ (has-except (λ w. omega arith) ex (passed-has r vs 1 (shift P r) refl)).is })
              (λ j v q.
              let b = nth-below vs j v q in
              record { is = mk.rest (2 + j) (inl (omega arith)) ∙ (has-except (λ w. omega arith) ex (passed-has r vs (2 + j) (shift P v) (rw (two-more j) (nth-shifted vs j v q)))).is })
              (λ j l b. mk.marked (2 + j) (omega arith) (omega arith));
          keep = keep_same;
          proper = record { heap-fine = heap-sound; me-fine = me; locals-fine = all-bound s.heap ps vs ws; space = space };
          grows = grows_same P L;
        }) fit z.right)
        (λ v s' R' φ. step_then (do-ret (head y.right) φ.got refl call u)
        (done refl (record { is = refl; fine = φ.fine; heap-fine = φ.proper.heap-fine; grows = φ.grows; space = φ.proper.space; locals = refl })))))))
