-- Fields of self, and class tests. Assumes nothing.
use Rattle.std.proofs.Common.{◌≡◌, ℕ, suc, ◌+◌, ◌<◌, Bool, true, false, cond, List, [], ◌∷◌, ◌++◌, length, get_or, Some, None, codes, Option, sym, refl, ap, ◌∙◌, subst, arith}
use Rattle.std.specs.List.{AllByRecursion}
use Rattle.std.specs.Str.{bytes_eq}
use Rattle.std.specs.Option.{option_map}
use Rattle.store.specs.Val.{Val, equal_val}
use Rattle.store.specs.Tables.{Table, look, put}
use Rattle.store.specs.Tables as store
use Rattle.machine.specs.Limits.{Limits, registers_per_frame}
use Rattle.machine.specs.Instr.{Instr, Program}
use Rattle.machine.specs.Operands.{truth}
use Rattle.machine.specs.State.{Registers, Frame, at, write}
use Rattle.machine.proofs.Judge.{Has}
use Rattle.machine.proofs.Exec.{do-const, do-eq, do-jmp, do-if_zero, do-if_other, do-rd_glob, do-rd_tab, do-has_tab, forward}
use Rattle.std.proofs.lemmas.Slice.Eq.{bytes_eq-Decides}
use Rattle.std.proofs.lemmas.Bool.{false≢true}
use Rattle.grammar.specs.Tree.{Expr}
use Rattle.rube.specs.Classes.{Classes, class_names, class_count, known}
use Rattle.rube.specs.Heap.{Heap, nil, is_nil, class_of, fields_of, no_cell, Cell}
use Rattle.rube.specs.Heap as heap
use Rattle.rube.specs.Evaluation.{State, Res, val, end}
use Rattle.rube.specs.Evaluation as evaluation
use Rattle.rube.specs.Meaning.{Eval, or_nil, location_of, eval}
use Rattle.compiler.specs.Layout.{place_in, class_global}
use Rattle.compiler.specs.Pieces.{class_into, truth_into, nil_into}
use Rattle.compiler.specs.Body.{read_field, compile}
use Rattle.correctness.specs.Fitting.{Fit}
use Rattle.correctness.proofs.Relation.{shift, tables_of, world, Globals, Fine, integer, text, object, FineHeap, FineCell, a_map, an_object, FineField, Self, self}
use Rattle.correctness.proofs.Segments.{Seg, split, seg-end, head, tail, last}
use Rattle.correctness.proofs.Following.{Sim, bind, count-then, step_then, done}
use Rattle.correctness.proofs.Registers.{has-written, has_other}
use Rattle.correctness.proofs.Returning.{except-pre}
use Rattle.correctness.proofs.Judged.{Pre, Post, first, next, answer, scratch}
use Rattle.correctness.proofs.Tabled.{object-here, object-table-here, read-field, equal-classes}
use Rattle.correctness.proofs.Classed.{two, class-then}
use Rattle.correctness.proofs.Tests.{truth-then}
use Rattle.correctness.proofs.Forms.{nil-fine, Ok}

module _ {A : Type 0} (P : Classes A) (L : Limits) (C : Program) (G : Table) (globals : Globals P G) where
  -- a value of the language has a known class
  pub fine-known : {H : Heap} {v : Val} → Fine P H v → known P (class_of H v) ≡ true
  fine-known integer = refl
  fine-known text = refl
  fine-known (object e k) = rw e k

  pub truth-fine : {H : Heap} (b : Bool) → Fine P H nil → Fine P H (heap.truth b)
  truth-fine true n = integer
  truth-fine false n = n

  -- a field's value in a fine heap is fine
  fields-fine : {H : Heap} (fs : Table) (k v : Val) → AllByRecursion (FineField P H) fs → look k fs ≡ Some v → Fine P H v
  unfolding look
  fields-fine [] k v a e = let z : ◌≡◌ {A = ℕ} 0 1 = cc in absurd (omega arith)
  fields-fine {H} (p ∷ fs) k v a e = by (equal_val p.0 k) e (fields-fine fs k v a.1) where
    one-fine : (u w : Val) → FineField P H (u, w) → Fine P H w
    one-fine (Val.string x) w h = h.1
    one-fine (Val.int n) w h = absurd h
    one-fine (Val.identifier n) w h = absurd h
    one-fine (Val.location n) w h = absurd h

    by : (b : Bool) → cond b (Some p.1) (look k fs) ≡ Some v → (look k fs ≡ Some v → Fine P H v) → Fine P H v
    by true e f = let w : p.1 ≡ v = cc in subst (Fine P H) w (one-fine p.0 p.1 a.0)
    by false e f = f e

  cell-fields : {H : Heap} {l : ℕ} {C : List ℕ} {fs : Table} → FineCell P H l (Cell.object C fs) → bytes_eq C (codes "Map") ≡ false → AllByRecursion (FineField P H) fs
  cell-fields (an_object m k a) n = a
  cell-fields (a_map e) n = let z : ◌≡◌ {A = ℕ} 0 1 = cc in absurd (omega arith)

  -- the fields of self
  pub self-fields : {H : Heap} (l : ℕ) {C : List ℕ} {fs : Table} → FineHeap P H → get_or H l no_cell ≡ Cell.object C fs → bytes_eq C (codes "Map") ≡ false → AllByRecursion (FineField P H) fs
  self-fields {H} l {C} {fs} h e m = cell-fields (subst (FineCell P H l) e (h.cells l (object-here H l e))) m

  or-fine : (H : Heap) (o : Option Val) → Fine P H nil → ((v : Val) → o ≡ Some v → Fine P H v) → Fine P H (or_nil o)
  or-fine H None n f = n
  or-fine H (Some v) n f = f v refl

  abbrev ReadField : Heap → ℕ → List ℕ → Option Val → Type 0
  ReadField H l x o = store.read (tables_of P H) (class_count P + l) (Val.string x) ≡ option_map (shift P) o

  field-then : {k f p q t l d : ℕ} {ns : List (List ℕ)} {S : List Frame} {R₀ : Registers} {H₀ : Heap} {R : Registers} (s : State) (x : List ℕ) (o : Option Val)
      → Pre P L ns (Val.location l) d t S R₀ H₀ R s → class_count P + l < length (tables_of P s.heap) → ReadField s.heap l x o → Fine P s.heap (or_nil o) → t + 2 < registers_per_frame
      → Seg C f p (read_field P x t) q
      → Sim P C L G k (at f p R S (world P G s)) 128 s.counted f q S (Post P L ns (Val.location l) t R₀ H₀) (val (or_nil o) s)
  field-then {t = t} {l = l} {R = R} s x None h m e w b g =
      let R₁ = write R (suc t) (Val.string x) in
      let R₂ = write R₁ (t + 2) (truth false) in
      let me = has_other R (suc t) 1 (Val.string x) (λ z. let r = h.room in omega arith) h.stand.me-in in
      let φ = scratch P L (t + 2) (truth false) (omega arith) (scratch P L (suc t) (Val.string x) (omega arith) h) in
      step_then (do-const (head g) (omega arith))
      (step_then (do-has_tab (head (tail g)) b me m (has-written R (suc t) (Val.string x)))
      (rw e (step_then (do-if_zero (head (tail (tail g))) (has-written R₁ (t + 2) (truth false)) (forward _ _ _ (two _)))
      (step_then (do-rd_glob (head (tail (tail (tail (tail (tail g)))))) (omega arith) globals.nils)
      (done (last (tail (tail (tail (tail (tail g)))))) (answer P L φ w))))))
  field-then {t = t} {l = l} {R = R} s x (Some v) h m e w b g =
      let R₁ = write R (suc t) (Val.string x) in
      let R₂ = write R₁ (t + 2) (truth true) in
      let r = h.room in
      let me = has_other R (suc t) 1 (Val.string x) (λ z. omega arith) h.stand.me-in in
      let me₂ = has_other R₁ (t + 2) 1 (truth true) (λ z. omega arith) me in
      let key = has_other R₁ (t + 2) (suc t) (truth true) (λ z. omega arith) (has-written R (suc t) (Val.string x)) in
      let φ = scratch P L (t + 2) (truth true) (omega arith) (scratch P L (suc t) (Val.string x) (omega arith) h) in
      step_then (do-const (head g) (omega arith))
      (step_then (do-has_tab (head (tail g)) b me m (has-written R (suc t) (Val.string x)))
      (rw e (step_then (do-if_other (head (tail (tail g))) (has-written R₁ (t + 2) (truth true)) refl)
      (step_then (do-rd_tab (head (tail (tail (tail g)))) (omega arith) me₂ m key e)
      (step_then (do-jmp (head (tail (tail (tail (tail g))))) (forward _ _ _ (omega (arith, seg-end g))))
      (done refl (answer P L φ w)))))))

  module _ (k : ℕ) (again : Eval A) where
    pub field-good : (a : A) (x : List ℕ) → Ok P L C G globals k again (Expr.field a x)
    unfolding eval compile
    field-good a x = record { sim = λ {s = s} h b g. by s h b g h.proper.me-fine } where
      by : {ns : List (List ℕ)} {me : Val} {d f p q t : ℕ} {S : List Frame} {R₀ : Registers} {H₀ : Heap} {R : Registers} (s : State)
          → Pre P L ns me d t S R₀ H₀ R s → Fit ns (Expr.field a x) t → Seg C f p (read_field P x t) q → Self P s.heap me
          → Sim P C L G (suc k) (at f p R S (world P G s)) 0 s.counted f q S (Post P L ns me t R₀ H₀) (val (or_nil (look (Val.string x) (fields_of s.heap (location_of me)))) (evaluation.count s))
      by s h b g (self {l = l} {fs = fs} e m k) =
          let fields = self-fields l h.proper.heap-fine.fine e m in
          rw e (count-then (field-then (evaluation.count s) x (look (Val.string x) fs) (first P L h) (object-table-here P s.heap l e) (read-field P s.heap l x e b.0)
          (or-fine s.heap (look (Val.string x) fs) (nil-fine P L C G globals h.proper.heap-fine.fine) (λ v q. fields-fine fs (Val.string x) v fields q)) b.1 g))

    -- a class that is not known is no value's
    unknown-apart : (D E : List ℕ) → known P D ≡ true → known P E ≡ false → bytes_eq D E ≡ false
    unknown-apart D E k n = by (bytes_eq D E) refl where
      by : (b : Bool) → bytes_eq D E ≡ b → b ≡ false
      by false e = refl
      by true e = let w = (bytes_eq-Decides D E).0 e in absurd (false≢true (sym n ∙ ap (known P) (sym w) ∙ k))

    test-then : {f p q t d : ℕ} {ns : List (List ℕ)} {me v : Val} {S : List Frame} {R₀ : Registers} {H₀ : Heap} {R : Registers} (s : State) (E : List ℕ) (b : Bool) → known P E ≡ b
        → Pre P L ns me d t S R₀ H₀ R s → Fine P s.heap v → Has R t (shift P v) → t + 2 < registers_per_frame
        → Seg C f p (cond b (class_into P (suc t) t ++ (Instr.rd_glob (t + 2) (class_global P E) ∷ Instr.eq (suc t) (suc t) (t + 2) ∷ truth_into t (suc t))) (nil_into t ∷ [])) q
        → Sim P C L G (suc k) (at f p R S (world P G s)) 128 s.counted f q S (Post P L ns me t R₀ H₀) (val (heap.truth (bytes_eq (class_of s.heap v) E)) s)
    test-then {t = t} {v = v} s E false n h w i b g =
        rw (unknown-apart (class_of s.heap v) E (fine-known w) n)
        (step_then (do-rd_glob (head g) (omega arith) globals.nils) (done (last g) (answer P L h (nil-fine P L C G globals h.proper.heap-fine.fine))))
    test-then {t = t} {v = v} s E true n h w i b g =
        let x = split (class_into P (suc t) t) _ g in
        class-then P L C G globals {c = 110} s v (omega arith) w (omega arith) (λ z. omega arith) x.left i
        (λ R' y c.
        let l = Val.location (place_in (class_names P) E) in
        let t₂ = bytes_eq (class_of s.heap v) E in
        let R₁ = write R' (t + 2) l in
        let R₂ = write R₁ (suc t) (truth t₂) in
        let h' = except-pre P L (suc t) (omega arith) y h in
        let φ = scratch P L (suc t) (truth t₂) (omega arith) (scratch P L (t + 2) l (omega arith) h') in
        step_then (do-rd_glob (head x.right) b (globals.classes E n))
        (step_then (do-eq (head (tail x.right)) (omega arith) (has_other R' (t + 2) (suc t) l (λ z. omega arith) c) (has-written R' (t + 2) l))
        (rw (equal-classes P (class_of s.heap v) E (fine-known w) n)
        (truth-then P L C G {c = 105} s t₂ globals (omega arith) (tail (tail x.right)) (has-written R₁ (suc t) (truth t₂))
        (done refl (answer P L φ (truth-fine t₂ (nil-fine P L C G globals h.proper.heap-fine.fine))))))))

    pub instance_of-good : (a : A) (e : Expr A) (E : List ℕ) → Ok P L C G globals k again e → Ok P L C G globals k again (Expr.instance_of a e E)
    unfolding eval compile
    instance_of-good a e E ge = record {
      sim = λ {ns = ns} {t = t} h b g.
          let y = split (compile P ns e t) _ g in
          count-then
          (bind (ge.sim (first P L h) b.1 y.left)
          (λ v s R φ. test-then s E (known P E) refl (next P L h φ) φ.fine φ.got b.0 y.right));
    }
