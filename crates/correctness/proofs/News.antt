-- Objects made, and their initialize. Assumes nothing.
use Rattle.std.proofs.Common.{◌≡◌, ℕ, suc, ◌+◌, ◌<◌, ◌≤◌, Bool, true, false, cond, not, eqb, List, [], ◌∷◌, ◌++◌, map, length, get_or, pos, Some, None, codes, Option, sym, refl, ap, ◌∙◌, subst, arith}
use Rattle.std.specs.List.{AllByRecursion}
use Rattle.std.specs.Str.{bytes_eq}
use Rattle.std.proofs.lemmas.Slice.Eq.{bytes_eq-Decides}
use Rattle.std.proofs.lemmas.List.{length-map, get_or_at}
use Rattle.store.specs.Val.{Val}
use Rattle.store.specs.Tables.{Table}
use Rattle.machine.specs.declared.ending.Ending.TheVariants.{NoTableSpace, WrongArgumentCount, NoSuchClass, CannotInstantiateBot}
use Rattle.machine.specs.Limits.{Limits, registers_per_frame}
use Rattle.machine.specs.Instr.{Instr, Program}
use Rattle.machine.specs.State.{Registers, Frame, at, write}
use Rattle.machine.proofs.Judge.{Has, Hold, none, more}
use Rattle.machine.proofs.Exec.{do-const, do-mov, do-rd_glob, do-mk_tab, end-mk_tab, do-wr_tab, end-wr_tab, end-halt}
use Rattle.grammar.specs.Tree.{Expr, Args}
use Rattle.grammar.specs.Measure.{count}
use Rattle.rube.specs.Classes.{Callee, Classes, class_names, class_count, known, lookup, parameter_count}
use Rattle.rube.specs.Heap as heap
use Rattle.rube.specs.Heap.{Heap, Cell, no_cell, class_of, fits}
use Rattle.rube.specs.Evaluation.{State, Res, val, end, unless, with_heap, ◌>>=◌}
use Rattle.rube.specs.Evaluation as evaluation
use Rattle.rube.specs.Meaning.{Eval, cells_of, framed, initialized, eval, evals}
use Rattle.rube.specs.Meaning as meaning
use Rattle.compiler.specs.Layout.{class_key, contents_key, place_in, class_global, function_of}
use Rattle.compiler.specs.Pieces.{number, halt_with}
use Rattle.compiler.specs.Body as code
use Rattle.compiler.specs.Body.{compile, compiles, create, initialize}
use Rattle.correctness.specs.Fitting.{Fits}
use Rattle.correctness.proofs.Relation.{shift, tables_of, world, Globals, Fine, integer, text, Grows}
use Rattle.correctness.proofs.Segments.{Seg, split, head, tail, last}
use Rattle.correctness.proofs.Following.{Sim, bind, bind-with, finish_with, count-then, step_then, done, ending}
use Rattle.correctness.proofs.Registers.{has-written, has_other, hold-other, hold-below, keep_same, keep-then}
use Rattle.correctness.proofs.Returning.{fine-grows, grows_then, grows_same, back-post}
use Rattle.correctness.proofs.Judged.{Pre, Post, first, next, answer, scratch}
use Rattle.correctness.proofs.Tabled.{make-object, make-map, length-tables, length-made, cells-object, new-table-here, old-table-here}
use Rattle.correctness.proofs.Heaps.{grows-more, sound-make, made-fine}
use Rattle.correctness.proofs.Space.{fits-after-make, Makes, both_fit, no_table, no_pair, MakesMap, first_fails, first_fits, makes-object, makes-map}
use Rattle.correctness.proofs.Classed.{two}
use Rattle.correctness.proofs.Forms.{setting, Ok}
use Rattle.correctness.proofs.Calls.{Oks, Callable, Callables, framed-back}
use Rattle.correctness.proofs.Objects.{grown-proper}

module _ {A : Type 0} (P : Classes A) (L : Limits) (C : Program) (G : Table) (globals : Globals P G) where
  abbrev within : heap.Setting A
  within = record { classes = P; limits = L }

  -- an object of class D stands in the register behind t, before arguments that still stand
  pub record Born (D : List ℕ) (ns : List (List ℕ)) (me : Val) (d t : ℕ) (S : List Frame) (R₀ : Registers) (H₀ : Heap) (ws : List Val) (s : State) (v : Val) (s' : State) (R : Registers) : Type 0 where
    pub pre : Pre P L ns me d t S R₀ H₀ R s'
    pub object-in : Has R (suc t) (shift P v)
    pub arguments : Hold R (suc (suc t)) ws
    pub fine : Fine P s'.heap v
    pub grows : Grows P s.heap s'.heap
    pub class : class_of s'.heap v ≡ D

  -- an Integer or a String is a value
  value-then : {k f p q t d : ℕ} {ns : List (List ℕ)} {me : Val} {S : List Frame} {R₀ : Registers} {H₀ : Heap} {R : Registers} {ws : List Val} (s : State) (D : List ℕ) (v : Val)
      → Fine P s.heap v → class_of s.heap v ≡ D → suc t < registers_per_frame → Pre P L ns me d t S R₀ H₀ R s → Hold R (suc (suc t)) ws → Seg C f p (Instr.const (suc t) (shift P v) ∷ []) q
      → Sim P C L G k (at f p R S (world P G s)) 100 s.counted f q S (Born D ns me d t S R₀ H₀ ws s) (val v s)
  value-then {t = t} {R = R} s D v w c b h hs g =
      step_then (do-const (head g) b)
      (done (last g) (record { pre = scratch P L (suc t) (shift P v) (omega arith) h; object-in = has-written R (suc t) (shift P v); arguments = hold-below R (suc t) (shift P v) (omega arith) hs; fine = w; grows = grows_same P L; class = c }))

  -- the state with the new object
  born : {t d : ℕ} {ns : List (List ℕ)} {me : Val} {S : List Frame} {R₀ : Registers} {H₀ : Heap} {R : Registers} {ws : List Val} (s : State) (D : List ℕ)
      → known P D ≡ true → bytes_eq D (codes "String") ≡ false → bytes_eq D (codes "Integer") ≡ false → fits within s.heap (length (cells_of D s.heap)) (length (cells_of D s.heap)) ≡ true
      → Pre P L ns me d t S R₀ H₀ R s → Has R (suc t) (Val.location (class_count P + length s.heap)) → Hold R (suc (suc t)) ws → class_of (s.heap ++ cells_of D s.heap) (Val.location (length s.heap)) ≡ D
      → Born D ns me d t S R₀ H₀ ws s (Val.location (length s.heap)) (with_heap (s.heap ++ cells_of D s.heap) s) R
  born s D kn ns' ni f h i hs c =
      let H' = s.heap ++ cells_of D s.heap in
      let g = grows-more P s.heap (cells_of D s.heap) in
      record {
        pre = record {
          room = h.room;
          frames = h.frames;
          stand = h.stand;
          keep = h.keep;
          proper = grown-proper P L C G globals H' h.proper (sound-make P D h.proper.heap-fine kn ns' ni) g (fits-after-make P L D s.heap f);
          grows = grows_then P L h.grows g;
        };
        object-in = i;
        arguments = hs;
        fine = made-fine P s.heap D kn;
        grows = g;
        class = c;
      }

  made-class : (H : Heap) (D : List ℕ) → class_of (H ++ cells_of D H) (Val.location (length H)) ≡ D
  made-class H D = by (bytes_eq D (codes "Map")) where
    by : (b : Bool) → heap.cell_class (get_or (H ++ cond b (Cell.object D ((contents_key, Val.location (suc (length H))) ∷ []) ∷ Cell.contents [] ∷ []) (Cell.object D [] ∷ [])) (length H) no_cell) ≡ D
    by true = ap heap.cell_class (get_or_at H (Cell.object D ((contents_key, Val.location (suc (length H))) ∷ [])) (Cell.contents [] ∷ []) no_cell (length H) refl)
    by false = ap heap.cell_class (get_or_at H (Cell.object D []) [] no_cell (length H) refl)

  -- an object that is no Map: one table, one pair
  object-then : {k f p q t d z : ℕ} {ns : List (List ℕ)} {me : Val} {S : List Frame} {R₀ : Registers} {H₀ : Heap} {R : Registers} {ws : List Val} (s : State) (D : List ℕ) (b : Bool)
      → fits within s.heap (length (cells_of D s.heap)) (length (cells_of D s.heap)) ≡ b → Makes L (tables_of P s.heap) (class_count P + length s.heap) class_key b
      → known P D ≡ true → bytes_eq D (codes "Map") ≡ false → bytes_eq D (codes "String") ≡ false → bytes_eq D (codes "Integer") ≡ false
      → suc (suc t) + length ws ≤ z → z + 1 < registers_per_frame → Pre P L ns me d t S R₀ H₀ R s → Hold R (suc (suc t)) ws
      → Seg C f p (Instr.mk_tab (suc t) ∷ Instr.const z class_key ∷ Instr.rd_glob (suc z) (class_global P D) ∷ Instr.wr_tab (suc t) z (suc z) ∷ []) q
      → Sim P C L G k (at f p R S (world P G s)) 100 s.counted f q S (Born D ns me d t S R₀ H₀ ws s)
      (unless NoTableSpace b s (val (Val.location (length s.heap)) (with_heap (s.heap ++ cells_of D s.heap) s)))
  object-then {t = t} s D false e (no_table l) kn nm ns' ni zl zb h hs g = ending refl (end-mk_tab (head g) (omega arith) l)
  object-then {t = t} {z = z} {R = R} s D false e (no_pair l x) kn nm ns' ni zl zb h hs g =
      let o = Val.location (length (tables_of P s.heap)) in
      let lt = length-tables P s.heap in
      let c = Val.location (place_in (class_names P) D) in
      let R₁ = write R (suc t) o in
      let R₂ = write R₁ z class_key in
      let o₂ = has_other R₁ z (suc t) class_key (λ y. omega arith) (has-written R (suc t) o) in
      let o₃ = has_other R₂ (suc z) (suc t) c (λ y. omega arith) o₂ in
      let k₃ = has_other R₂ (suc z) z c (λ y. omega arith) (has-written R₁ z class_key) in
      let o-at = subst (λ (n : ℕ). Has (write R₂ (suc z) c) (suc t) (Val.location n)) lt o₃ in
      step_then (do-mk_tab (head g) (omega arith) l)
      (step_then (do-const (head (tail g)) (omega arith))
      (step_then (do-rd_glob (head (tail (tail g))) (omega arith) (globals.classes D kn))
      (ending refl (end-wr_tab (head (tail (tail (tail g)))) o-at (new-table-here P s.heap) k₃ (has-written R₂ (suc z) c) x))))
  object-then {t = t} {z = z} {R = R} s D true e (both_fit l x) kn nm ns' ni zl zb h hs g =
      let o = Val.location (length (tables_of P s.heap)) in
      let lt = length-tables P s.heap in
      let c = Val.location (place_in (class_names P) D) in
      let R₁ = write R (suc t) o in
      let R₂ = write R₁ z class_key in
      let o₂ = has_other R₁ z (suc t) class_key (λ y. omega arith) (has-written R (suc t) o) in
      let o₃ = has_other R₂ (suc z) (suc t) c (λ y. omega arith) o₂ in
      let k₃ = has_other R₂ (suc z) z c (λ y. omega arith) (has-written R₁ z class_key) in
      let o-at = subst (λ (n : ℕ). Has (write R₂ (suc z) c) (suc t) (Val.location n)) lt o₃ in
      let h₃ = scratch P L (suc z) c (omega arith) (scratch P L z class_key (omega arith) (scratch P L (suc t) o (omega arith) h)) in
      let hs₃ = hold-other R₂ (suc z) c (omega arith) (hold-other R₁ z class_key (omega arith) (hold-below R (suc t) o (omega arith) hs)) in
      let cells = ap (λ (ys : Heap). tables_of P (s.heap ++ ys)) (sym (cells-object D s.heap nm)) in
      step_then (do-mk_tab (head g) (omega arith) l)
      (step_then (do-const (head (tail g)) (omega arith))
      (step_then (do-rd_glob (head (tail (tail g))) (omega arith) (globals.classes D kn))
      (step_then (do-wr_tab (head (tail (tail (tail g)))) o-at (new-table-here P s.heap) k₃ (has-written R₂ (suc z) c) x)
      (rw (make-object P s.heap D ∙ cells)
      (done (last (tail (tail (tail g)))) (born s D kn ns' ni e h₃ o-at hs₃ (made-class s.heap D)))))))

  abbrev map_code : ℕ → ℕ → List Instr
  map_code t z =
      Instr.mk_tab (suc t)
      ∷ Instr.const z class_key
      ∷ Instr.rd_glob (suc z) (class_global P (codes "Map"))
      ∷ Instr.wr_tab (suc t) z (suc z)
      ∷ Instr.mk_tab (suc z)
      ∷ Instr.const z contents_key
      ∷ Instr.wr_tab (suc t) z (suc z)
      ∷ []

  -- the second table of a Map, and its place in the first
  contents-then : {k f p q t d z : ℕ} {ns : List (List ℕ)} {me : Val} {S : List Frame} {R₀ : Registers} {H₀ : Heap} {ws : List Val} (s : State) (b : Bool) (R : Registers)
      → fits within s.heap 2 2 ≡ b → Makes L (tables_of P (s.heap ++ Cell.object (codes "Map") [] ∷ [])) (class_count P + length s.heap) contents_key b
      → suc (suc t) + length ws ≤ z → z + 1 < registers_per_frame → Pre P L ns me d t S R₀ H₀ R s → Has R (suc t) (Val.location (class_count P + length s.heap)) → Hold R (suc (suc t)) ws
      → Seg C f p (Instr.mk_tab (suc z) ∷ Instr.const z contents_key ∷ Instr.wr_tab (suc t) z (suc z) ∷ []) q
      → Sim P C L G k (at f p R S (record { tables = tables_of P (s.heap ++ Cell.object (codes "Map") [] ∷ []); globals = G; effects = s.effects })) 96 s.counted f q S (Born (codes "Map") ns me d t S R₀ H₀ ws s)
      (unless NoTableSpace b s (val (Val.location (length s.heap)) (with_heap (s.heap ++ cells_of (codes "Map") s.heap) s)))
  contents-then s false R e (no_table l) zl zb h i hs g = ending refl (end-mk_tab (head g) (omega arith) l)
  contents-then {t = t} {z = z} s false R e (no_pair l x) zl zb h i hs g =
      let v = Val.location (length (tables_of P (s.heap ++ Cell.object (codes "Map") [] ∷ []))) in
      let R₁ = write R (suc z) v in
      let i₂ = has_other R₁ z (suc t) contents_key (λ y. omega arith) (has_other R (suc z) (suc t) v (λ y. omega arith) i) in
      let v₂ = has_other R₁ z (suc z) contents_key (λ y. omega arith) (has-written R (suc z) v) in
      step_then (do-mk_tab (head g) (omega arith) l)
      (step_then (do-const (head (tail g)) (omega arith))
      (ending refl (end-wr_tab (head (tail (tail g))) i₂ (old-table-here P s.heap (Cell.object (codes "Map") [])) (has-written R₁ z contents_key) v₂ x)))
  contents-then {t = t} {z = z} s true R e (both_fit l x) zl zb h i hs g =
      let v = Val.location (length (tables_of P (s.heap ++ Cell.object (codes "Map") [] ∷ []))) in
      let w = Val.location (class_count P + suc (length s.heap)) in
      let same : v ≡ w = ap (λ (n : ℕ). Val.location n) (length-made P s.heap (Cell.object (codes "Map") [])) in
      let R₁ = write R (suc z) v in
      let i₂ = has_other R₁ z (suc t) contents_key (λ y. omega arith) (has_other R (suc z) (suc t) v (λ y. omega arith) i) in
      let v₂ = has_other R₁ z (suc z) contents_key (λ y. omega arith) (has-written R (suc z) v) in
      let v-at = subst (λ (u : Val). Has (write R₁ z contents_key) (suc z) u) same v₂ in
      let h₂ = scratch P L z contents_key (omega arith) (scratch P L (suc z) v (omega arith) h) in
      let hs₂ = hold-other R₁ z contents_key (omega arith) (hold-other R (suc z) v (omega arith) hs) in
      step_then (do-mk_tab (head g) (omega arith) l)
      (step_then (do-const (head (tail g)) (omega arith))
      (step_then (do-wr_tab (head (tail (tail g))) i₂ (old-table-here P s.heap (Cell.object (codes "Map") [])) (has-written R₁ z contents_key) v-at x)
      (rw (make-map P s.heap)
      (done (last (tail (tail g))) (born s (codes "Map") refl refl refl e h₂ i₂ hs₂ (made-class s.heap (codes "Map")))))))

  -- a Map: two tables, two pairs
  map-then : {k f p q t d z : ℕ} {ns : List (List ℕ)} {me : Val} {S : List Frame} {R₀ : Registers} {H₀ : Heap} {R : Registers} {ws : List Val} (s : State) (b : Bool)
      → fits within s.heap 2 2 ≡ b → MakesMap L (tables_of P s.heap) (tables_of P (s.heap ++ Cell.object (codes "Map") [] ∷ [])) (class_count P + length s.heap) b
      → suc (suc t) + length ws ≤ z → z + 1 < registers_per_frame → Pre P L ns me d t S R₀ H₀ R s → Hold R (suc (suc t)) ws → Seg C f p (map_code t z) q
      → Sim P C L G k (at f p R S (world P G s)) 100 s.counted f q S (Born (codes "Map") ns me d t S R₀ H₀ ws s)
      (unless NoTableSpace b s (val (Val.location (length s.heap)) (with_heap (s.heap ++ cells_of (codes "Map") s.heap) s)))
  map-then {t = t} s false e (first_fails (no_table l)) zl zb h hs g = ending refl (end-mk_tab (head g) (omega arith) l)
  map-then {t = t} {z = z} {R = R} s false e (first_fails (no_pair l x)) zl zb h hs g =
      let o = Val.location (length (tables_of P s.heap)) in
      let lt = length-tables P s.heap in
      let c = Val.location (place_in (class_names P) (codes "Map")) in
      let R₁ = write R (suc t) o in
      let R₂ = write R₁ z class_key in
      let o₃ = has_other R₂ (suc z) (suc t) c (λ y. omega arith) (has_other R₁ z (suc t) class_key (λ y. omega arith) (has-written R (suc t) o)) in
      let k₃ = has_other R₂ (suc z) z c (λ y. omega arith) (has-written R₁ z class_key) in
      let o-at = subst (λ (n : ℕ). Has (write R₂ (suc z) c) (suc t) (Val.location n)) lt o₃ in
      step_then (do-mk_tab (head g) (omega arith) l)
      (step_then (do-const (head (tail g)) (omega arith))
      (step_then (do-rd_glob (head (tail (tail g))) (omega arith) (globals.classes (codes "Map") refl))
      (ending refl (end-wr_tab (head (tail (tail (tail g)))) o-at (new-table-here P s.heap) k₃ (has-written R₂ (suc z) c) x))))
  map-then {t = t} {z = z} {R = R} s b e (first_fits (both_fit l x) m) zl zb h hs g =
      let o = Val.location (length (tables_of P s.heap)) in
      let lt = length-tables P s.heap in
      let c = Val.location (place_in (class_names P) (codes "Map")) in
      let R₁ = write R (suc t) o in
      let R₂ = write R₁ z class_key in
      let R₃ = write R₂ (suc z) c in
      let o₃ = has_other R₂ (suc z) (suc t) c (λ y. omega arith) (has_other R₁ z (suc t) class_key (λ y. omega arith) (has-written R (suc t) o)) in
      let k₃ = has_other R₂ (suc z) z c (λ y. omega arith) (has-written R₁ z class_key) in
      let o-at = subst (λ (n : ℕ). Has R₃ (suc t) (Val.location n)) lt o₃ in
      let h₃ = scratch P L (suc z) c (omega arith) (scratch P L z class_key (omega arith) (scratch P L (suc t) o (omega arith) h)) in
      let hs₃ = hold-other R₂ (suc z) c (omega arith) (hold-other R₁ z class_key (omega arith) (hold-below R (suc t) o (omega arith) hs)) in
      step_then (do-mk_tab (head g) (omega arith) l)
      (step_then (do-const (head (tail g)) (omega arith))
      (step_then (do-rd_glob (head (tail (tail g))) (omega arith) (globals.classes (codes "Map") refl))
      (step_then (do-wr_tab (head (tail (tail (tail g)))) o-at (new-table-here P s.heap) k₃ (has-written R₂ (suc z) c) x)
      (rw (make-object P s.heap (codes "Map")) (contents-then s b R₃ e m zl zb h₃ o-at hs₃ (tail (tail (tail (tail g)))))))))

  -- the code and the meaning of making, by which class it is
  abbrev make_by : Bool → Bool → Bool → List ℕ → ℕ → ℕ → List Instr
  make_by i u m D t z =
      cond i (Instr.const (suc t) (number 0) ∷ [])
      (cond u (Instr.const (suc t) (Val.string []) ∷ [])
      (Instr.mk_tab (suc t) ∷ Instr.const z class_key ∷ Instr.rd_glob (suc z) (class_global P D) ∷ Instr.wr_tab (suc t) z (suc z) ∷ cond m (Instr.mk_tab (suc z) ∷ Instr.const z contents_key ∷ Instr.wr_tab (suc t) z (suc z) ∷ []) []))

  abbrev made_by : Bool → Bool → List ℕ → State → Res Val
  made_by i u D s = cond i (val (Val.int (pos 0)) s) (cond u (val (Val.string []) s) (meaning.make_object within D s))

  make-by : {k f p q t d z : ℕ} {ns : List (List ℕ)} {me : Val} {S : List Frame} {R₀ : Registers} {H₀ : Heap} {R : Registers} {ws : List Val} (s : State) (D : List ℕ) (i u m : Bool)
      → bytes_eq D (codes "Integer") ≡ i → bytes_eq D (codes "String") ≡ u → bytes_eq D (codes "Map") ≡ m
      → known P D ≡ true → suc (suc t) + length ws ≤ z → z + 1 < registers_per_frame → Pre P L ns me d t S R₀ H₀ R s → Hold R (suc (suc t)) ws → Seg C f p (make_by i u m D t z) q
      → Sim P C L G k (at f p R S (world P G s)) 100 s.counted f q S (Born D ns me d t S R₀ H₀ ws s) (made_by i u D s)
  make-by s D true u m a b c kn zl zb h hs g = value-then s D (Val.int (pos 0)) integer (sym ((bytes_eq-Decides D (codes "Integer")).0 a)) (omega arith) h hs g
  make-by s D false true m a b c kn zl zb h hs g = value-then s D (Val.string []) text (sym ((bytes_eq-Decides D (codes "String")).0 b)) (omega arith) h hs g
  make-by s D false false false a b c kn zl zb h hs g = object-then s D _ refl (makes-object P L D s.heap h.proper.space c) kn c b a zl zb h hs g
  make-by s D false false true a b c kn zl zb h hs g =
      let e = (bytes_eq-Decides D (codes "Map")).0 c in
      rw e (map-then s _ refl (makes-map P L s.heap h.proper.space) zl zb h hs (rw e at g))

  -- an object of any class that can be made
  pub make-then : {k f p q t d z : ℕ} {ns : List (List ℕ)} {me : Val} {S : List Frame} {R₀ : Registers} {H₀ : Heap} {R : Registers} {ws : List Val} (s : State) (D : List ℕ)
      → known P D ≡ true → suc (suc t) + length ws ≤ z → z + 1 < registers_per_frame → Pre P L ns me d t S R₀ H₀ R s → Hold R (suc (suc t)) ws → Seg C f p (code.make P D (suc t) z) q
      → Sim P C L G k (at f p R S (world P G s)) 100 s.counted f q S (Born D ns me d t S R₀ H₀ ws s) (meaning.make within D s)
  make-then s D kn zl zb h hs g = make-by s D (bytes_eq D (codes "Integer")) (bytes_eq D (codes "String")) (bytes_eq D (codes "Map")) refl refl refl kn zl zb h hs g

  module _ (k : ℕ) (again : Eval A) where
    all-fine : {H H' : Heap} (vs : List Val) → Grows P H H' → AllByRecursion (Fine P H) vs → AllByRecursion (Fine P H') vs
    all-fine [] g a = tt
    all-fine (v ∷ vs) g a = (fine-grows P L g a.0, all-fine vs g a.1)

    -- a wrong number of arguments is known when the code is laid
    wrong-then : {f p q t : ℕ} {S : List Frame} {R : Registers} {Φ : Val → State → Registers → Type 0} (s : State) → t < registers_per_frame → Seg C f p (halt_with t 5) q
        → Sim P C L G (suc k) (at f p R S (world P G s)) 128 s.counted f q S Φ (end WrongArgumentCount s)
    wrong-then {t = t} {R = R} s b g = step_then (do-const (head g) b) (ending refl (end-halt (head (tail g)) (has-written R t (number 5))))

    -- without initialize there are no arguments
    plain_then : {f p q t d : ℕ} {ns : List (List ℕ)} {me : Val} {S : List Frame} {R₀ : Registers} {H₀ : Heap} {R : Registers} (s : State) (D : List ℕ) (vs : List Val) (b : Bool) → eqb (length vs) 0 ≡ b
        → known P D ≡ true → Pre P L ns me d t S R₀ H₀ R s → t + 4 < registers_per_frame
        → Seg C f p (cond b (code.make P D (suc t) (t + 2) ++ (Instr.mov t (suc t) ∷ [])) (halt_with t 5)) q
        → Sim P C L G (suc k) (at f p R S (world P G s)) 128 s.counted f q S (Post P L ns me t R₀ H₀) (unless WrongArgumentCount b s (meaning.make within D s))
    plain_then s D vs false e kn h u g = wrong-then s (omega arith) g
    plain_then {t = t} s D vs true e kn h u g =
        let y = split (code.make P D (suc t) (t + 2)) _ g in
        finish_with {c = 1} (omega arith) (make-then {ws = []} s D kn (omega arith) (omega arith) h none y.left)
        (λ v s' R' β. step_then (do-mov (head y.right) (omega arith) β.object-in) (done (last y.right) (answer P L β.pre β.fine)))

    -- the object's initialize is entered, and what it answers is dropped
    initialize-then : {f p q t d : ℕ} {ns : List (List ℕ)} {me : Val} {S : List Frame} {R₀ : Registers} {H₀ : Heap} {R : Registers} (s : State) (D : List ℕ) (vs : List Val) (f' : Callee A) (b : Bool)
        → Callable P L C G globals k again f' → lookup P D (codes "initialize") ≡ Some f'
        → known P D ≡ true → Pre P L ns me d t S R₀ H₀ R s → AllByRecursion (Fine P s.heap) vs → t + length vs + 4 < registers_per_frame → Hold R (suc (suc t)) (map (shift P) vs)
        → Seg C f p (cond b (code.make P D (suc t) (t + 2 + length vs) ++ (initialize P f' t (length vs) ++ (Instr.mov t (suc t) ∷ []))) (halt_with t 5)) q
        → Sim P C L G (suc k) (at f p R S (world P G s)) 128 s.counted f q S (Post P L ns me t R₀ H₀)
        (unless WrongArgumentCount b s (meaning.make within D s >>= (λ r s'. framed (setting P L C G globals k again) again d f' r vs s' >>= (λ _ s''. val r s''))))
    initialize-then s D vs f' false c e kn h ws u hs g = wrong-then s (omega arith) g
    initialize-then {t = t} {d = d} s D vs f' true c e kn h ws u hs g =
        let y = split (code.make P D (suc t) (t + 2 + length vs)) _ g in
        let lm = length-map vs (shift P) in
        let fn = Val.identifier (function_of f') in
        bind-with {c = 28} (omega arith) (make-then s D kn (omega arith) (omega arith) h hs y.left)
        (λ r s' R' β.
        let found : lookup P (class_of s'.heap r) (codes "initialize") ≡ Some f' = rw β.class e in
        let R₁ = write R' t (number (length vs)) in
        let R₂ = write R₁ (t + 2 + length vs) fn in
        let h₂ = scratch P L (t + 2 + length vs) fn (omega arith) (scratch P L t (number (length vs)) (omega arith) β.pre) in
        let o₂ = has_other R₁ (t + 2 + length vs) (suc t) fn (λ z. omega arith) (has_other R' t (suc t) (number (length vs)) (λ z. omega arith) β.object-in) in
        let n₂ = has_other R₁ (t + 2 + length vs) t fn (λ z. omega arith) (has-written R' t (number (length vs))) in
        let hs₂ = hold-other R₁ (t + 2 + length vs) fn (omega arith) (hold-below R' t (number (length vs)) (omega arith) β.arguments) in
        let w = split (Instr.const t (number (length vs)) ∷ Instr.const (t + 2 + length vs) fn ∷ Instr.call (t + 2 + length vs) t (t + 1 + length vs) ∷ []) _ y.right in
        step_then (do-const (head w.left) (omega arith))
        (step_then (do-const (head (tail w.left)) (omega arith))
        (bind-with {c = 1} (omega arith)
        (framed-back P L C G globals k again s' r vs (codes "initialize") f' d c found h₂ β.fine (all-fine vs β.grows ws) (omega arith) (has-written R₁ (t + 2 + length vs) fn) (more n₂ (more o₂ hs₂)) (tail (tail w.left)))
        (λ v s'' R'' back.
        let o₃ : Has R'' (suc t) (shift P r) = rw back.is (has_other R₂ t (suc t) (shift P v) (λ z. omega arith) o₂) in
        step_then (do-mov (head w.right) (omega arith) o₃)
        (done (last w.right) (answer P L (next P L h₂ (back-post P L h₂ back)) (fine-grows P L back.grows β.fine)))))))

    create-then : {f p q t d : ℕ} {ns : List (List ℕ)} {me : Val} {S : List Frame} {R₀ : Registers} {H₀ : Heap} {R : Registers} (s : State) (D : List ℕ) (vs : List Val) (o : Option (Callee A))
        → ((f' : Callee A) → o ≡ Some f' → Callable P L C G globals k again f') → lookup P D (codes "initialize") ≡ o → known P D ≡ true
        → Pre P L ns me d t S R₀ H₀ R s → AllByRecursion (Fine P s.heap) vs → t + length vs + 4 < registers_per_frame → Hold R (suc (suc t)) (map (shift P) vs)
        → Seg C f p (create P o D (length vs) t) q
        → Sim P C L G (suc k) (at f p R S (world P G s)) 128 s.counted f q S (Post P L ns me t R₀ H₀) (initialized (setting P L C G globals k again) again d o D vs s)
    create-then s D vs None cs e kn h ws u hs g = plain_then s D vs _ refl kn h (omega arith) g
    create-then s D vs (Some f') cs e kn h ws u hs g = initialize-then s D vs f' (eqb (length vs) (parameter_count f')) (cs f' refl) e kn h ws u hs g

    new_then : {f p q t d : ℕ} {ns : List (List ℕ)} {me : Val} {S : List Frame} {R₀ : Registers} {H₀ : Heap} {R : Registers} (s : State) (D : List ℕ) (xs : Args A)
        → Callables P L C G globals k again → Oks P L C G globals k again xs → (b c : Bool) → known P D ≡ b
        → Pre P L ns me d t S R₀ H₀ R s → t + count xs + 4 < registers_per_frame → Fits ns xs (t + 2)
        → Seg C f p (cond b (cond c (halt_with t 3) (compiles P ns xs (t + 2) ++ create P (lookup P D (codes "initialize")) D (count xs) t)) (halt_with t 2)) q
        → Sim P C L G (suc k) (at f p R S (world P G s)) 128 s.counted f q S (Post P L ns me t R₀ H₀)
        (unless NoSuchClass b s (unless CannotInstantiateBot (not c) s (evals (setting P L C G globals k again) again me d xs s >>= (λ vs s'. initialized (setting P L C G globals k again) again d (lookup P D (codes "initialize")) D vs s'))))
    new_then {t = t} {R = R} s D xs cs gxs false c e h u b g = step_then (do-const (head g) (omega arith)) (ending refl (end-halt (head (tail g)) (has-written R t (number 2))))
    new_then {t = t} {R = R} s D xs cs gxs true true e h u b g = step_then (do-const (head g) (omega arith)) (ending refl (end-halt (head (tail g)) (has-written R t (number 3))))
    new_then {t = t} {ns = ns} s D xs cs gxs true false e h u b g =
        let y = split (compiles P ns xs (t + 2)) _ g in
        let room = h.room in
        bind (gxs.sim (record { room = omega arith; frames = h.frames; stand = h.stand; keep = keep_same; proper = h.proper; grows = grows_same P L }) b y.left)
        (λ vs s' R' ψ.
        let many = ψ.many in
        create-then s' D vs (lookup P D (codes "initialize")) (λ f' z. cs D (codes "initialize") f' z) refl e
        (record {
          room = room;
          frames = h.frames;
          stand = ψ.stand;
          keep = keep-then (omega arith) h.keep ψ.keep;
          proper = ψ.proper;
          grows = grows_then P L h.grows ψ.grows;
        })
        ψ.fine (omega arith) (rw (two t) at ψ.got) (rw many y.right))

    pub new-good : Callables P L C G globals k again → (a : A) (D : List ℕ) (xs : Args A) → Oks P L C G globals k again xs → Ok P L C G globals k again (Expr.new a D xs)
    unfolding eval compile
    new-good cs a D xs gxs = record { sim = λ {s = s} h b g. count-then (new_then (evaluation.count s) D xs cs gxs (known P D) (bytes_eq D (codes "Bot")) refl (first P L h) b.0 b.1 g) }
