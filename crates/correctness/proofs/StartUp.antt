-- The start-up code of a run: class tables, nil and the top-level self, or the end for want of room. Assumes nothing.
use Rattle.std.proofs.Common.{◌≡◌, ℕ, zero, suc, ◌+◌, ◌*◌, ◌<◌, ◌≤◌, Bool, true, false, cond, leb, List, [], ◌∷◌, ◌++◌, map, length, get_or, is_some, Some, None, codes, Decides, sym, refl, ap, ◌∙◌, subst, ⊎_elim, arith}
use Rattle.std.specs.Str.{bytes_eq}
use Rattle.std.proofs.lemmas.Slice.Eq.{bytes_eq-Decides}
use Rattle.std.proofs.lemmas.List.{append_assoc, append-nil, map-append, map_push, length-append, length_push, length-map}
use Rattle.std.proofs.lemmas.Bool.{both_ways, or_right, lt-ltb, cases_eq, leb-true, le-leb, and_parts, and_from}
use Rattle.store.specs.Val.{Val, equal_val}
use Rattle.store.specs.Tables.{Table, Tables, look, put, pairs}
use Rattle.store.proofs.Tables.{look-put-same, look-put-other}
use Rattle.machine.specs.declared.ending.Ending.TheVariants.{NoTableSpace}
use Rattle.machine.specs.Limits.{most_globals, Limits}
use Rattle.machine.specs.Effects.{Effects, nothing_yet}
use Rattle.machine.specs.Instr.{Instr, Program}
use Rattle.machine.specs.State.{Registers, write, passed, at, goes, ends, initial}
use Rattle.machine.specs.Step.{holds_global}
use Rattle.machine.proofs.Judge.{Has, Run}
use Rattle.machine.proofs.Exec.{do-const, do-rd_glob, do-wr_glob}
use Rattle.rube.specs.Classes.{Named, Classes, among, visible, class_names, class_count, known, visible_in, pair_count}
use Rattle.rube.specs.Heap.{Cell, Heap, no_cell, cell_class, first_heap, top_self, fits, heap_pairs}
use Rattle.rube.specs.Meaning.{first}
use Rattle.compiler.specs.Layout.{class_key, name_key, nil_global, class_global, place_in}
use Rattle.compiler.specs.Whole.{lay_methods, lay_classes, lay_object, start_code}
use Rattle.correctness.proofs.Relation.{shift, method_pair, class_table, class_tables, tables_of, Globals, world, FineCell, an_object, self, Proper}
use Rattle.correctness.proofs.Segments.{Seg, split, head, tail, none, last}
use Rattle.correctness.proofs.Registers.{has-written, has_other, place-below}
use Rattle.correctness.proofs.Values.{string-key}
use Rattle.correctness.proofs.Tabled.{length-tables, pairs-tables}
use Rattle.correctness.proofs.Laying.{Room, room-in-front, laying, pairs-append, pairs-push, Lays, laid, full, step_then, slack, done, make-then, write_then, lay-on}
use Rattle.correctness.specs.Accepted.{Distinct}
use Rattle.correctness.proofs.Orderly.{method_names_of, Orderly, unlike-among}

-- a key is new that no pair has
look_none : (k j v : Val) (t : Table) → look k t ≡ None → equal_val j k ≡ false → look k (t ++ (j, v) ∷ []) ≡ None
unfolding look
look_none k j v [] h n = rw n
look_none k j v (p ∷ t) h n = by (equal_val p.0 k) h (λ e. look_none k j v t e n) where
  by : (b : Bool) → cond b (Some p.1) (look k t) ≡ None → (look k t ≡ None → look k (t ++ (j, v) ∷ []) ≡ None) → cond b (Some p.1) (look k (t ++ (j, v) ∷ [])) ≡ None
  by true e f = let z : ◌≡◌ {A = ℕ} 0 1 = cc in absurd (omega arith)
  by false e f = f e

length-put : (k v : Val) (t : Table) → length (put k v t) ≤ suc (length t)
unfolding put
length-put k v [] = omega arith
length-put k v (p ∷ t) = by (equal_val p.0 k) (length-put k v t) where
  by : (b : Bool) → length (put k v t) ≤ suc (length t) → length (cond b ((p.0, v) ∷ t) (p ∷ put k v t)) ≤ suc (suc (length t))
  by true h = omega arith
  by false h = omega arith

-- the globals hold the first n class tables
pub record Holding (n : ℕ) (G : Table) : Type 0 where
  pub count : length G ≤ n
  pub each : (i : ℕ) → i < n → look (Val.identifier (suc i)) G ≡ Some (Val.location i)

other-global : {i j : ℕ} → (i ≡ j → ⊥) → Val.identifier i ≡ Val.identifier j → ⊥
other-global n e = n (cc)

holding-more : {n n' : ℕ} {G : Table} (g l : ℕ) → n' ≡ suc n → g ≡ suc n → l ≡ n → Holding n G → Holding n' (put (Val.identifier g) (Val.location l) G)
holding-more {n} {G = G} g l d e f h =
    record {
      count = omega (arith, length-put (Val.identifier g) (Val.location l) G, h.count);
      each = λ i b. ⊎_elim
          (λ (q : i ≡ n). let s : suc i ≡ g = omega arith in let z : l ≡ i = omega arith in rw (s, ← z) (look-put-same (Val.identifier g) (Val.location l) G))
          (λ (q : i ≡ n → ⊥). look-put-other (Val.identifier (suc i)) (Val.identifier g) (Val.location l) G (other-global (λ x. q (omega arith))) ∙ h.each i (omega (arith, q)))
          (cases_eq i n);
    }

global-free : (g : ℕ) (G : Table) → length G < most_globals → holds_global g G ≡ true
global-free g G h = or_right (is_some (look (Val.identifier g) G)) _ (lt-ltb (length G) most_globals h)

module _ {A : Type 0} where
  -- none of these methods' names is a key of the table
  abbrev pub Fresh : Table → List (Named A) → Type 0
  Fresh t ms = (x : List ℕ) → among (method_names_of ms) x ≡ true → look (Val.string x) t ≡ None

  fresh-here : (t : Table) (m : Named A) (ms : List (Named A)) → Fresh t (m ∷ ms) → look (Val.string m.name) t ≡ None
  fresh-here t m ms f = f m.name (rw ((bytes_eq-Decides m.name m.name).1 refl))

  fresh-more : (t : Table) (m : Named A) (ms : List (Named A)) (v : Val) → among (method_names_of ms) m.name ≡ false → Fresh t (m ∷ ms) → Fresh (t ++ (Val.string m.name, v) ∷ []) ms
  fresh-more t m ms v n f x h =
      look_none (Val.string x) (Val.string m.name) v t (f x (or_right (bytes_eq m.name x) (among (method_names_of ms) x) h))
      (string-key m.name x ∙ unlike-among (method_names_of ms) m.name x n h)

  fresh-first : (ms : List (Named A)) (v : Val) → among (method_names_of ms) (codes "#name") ≡ false → Fresh ((name_key, v) ∷ []) ms
  unfolding look
  fresh-first ms v n x h = look_none (Val.string x) name_key v [] refl (string-key (codes "#name") x ∙ unlike-among (method_names_of ms) (codes "#name") x n h)

module _ {A : Type 0} (P : Classes A) where
  class-held : {G : Table} (D : List ℕ) → known P D ≡ true → Holding (class_count P) G → look (Val.identifier (class_global P D)) G ≡ Some (Val.location (place_in (class_names P) D))
  class-held D k h = h.each (place_in (class_names P) D) (place-below (class_names P) D k)

  nil-held : {G : Table} (l : ℕ) → l ≡ class_count P → Holding (class_count P) G → Globals P (put (Val.identifier nil_global) (Val.location l) G)
  nil-held {G} l e h =
      record {
        nils = look-put-same (Val.identifier nil_global) (Val.location l) G ∙ ap (λ (n : ℕ). Some (Val.location n)) (omega arith);
        classes = λ D k. look-put-other (Val.identifier (class_global P D)) (Val.identifier nil_global) (Val.location l) G (other-global (λ z. omega arith)) ∙ class-held D k h;
      }

module _ {A : Type 0} (P : Classes A) {C : Program} {L : Limits} {o : Effects} where
  -- a pair for each method
  lay-methods : (ms : List (Named A)) {p q : ℕ} {G : Table} {R : Registers} (S : Tables) (t : Table) {T : Tables} → Distinct (method_names_of ms) → Fresh t ms → Seg C 0 p (lay_methods P ms) q → Has R 2 (Val.location (length S)) → Room L (S ++ t ∷ []) → S ++ (t ++ map (method_pair P) ms) ∷ [] ≡ T → Lays C L (at 0 p R [] (laying (S ++ t ∷ []) G o)) (3 * length ms) q o T (λ G' R'. G' ≡ G)
  lay-methods [] S t d f g h r e = done (none g) (rw append-nil at e) r refl
  lay-methods (m ∷ ms) {R = R} S t d f g h r e =
      let k : Val = Val.string m.name in
      let v : Val = (method_pair P m).1 in
      let here = has_other (write R 3 k) 4 2 v (λ e. omega arith) (has_other R 3 2 k (λ e. omega arith) h) in
      slack (3 * length (m ∷ ms)) (omega arith)
      (step_then (do-const (head g) (omega arith))
      (step_then (do-const (head (tail g)) (omega arith))
      (write_then S t (head (tail (tail g))) here (has_other (write R 3 k) 4 3 v (λ e. omega arith) (has-written R 3 k)) (has-written (write R 3 k) 4 v)
      (fresh-here t m ms f) r
      (omega (arith, pairs-push S t, pairs-push S (t ++ map (method_pair P) (m ∷ ms)), length-append t (map (method_pair P) (m ∷ ms)), ap pairs e))
      (λ r'. lay-methods ms S (t ++ method_pair P m ∷ []) d.1 (fresh-more t m ms v d.0 f) (tail (tail (tail g))) here r'
      (ap (λ (u : Table). S ++ u ∷ []) (append_assoc t (method_pair P m ∷ []) (map (method_pair P) ms)) ∙ e)))))

  -- the class tables of N, each held by its global
  lay-classes : (N : List (List ℕ)) → length N < most_globals → ((Bs : List (List ℕ)) (D : List ℕ) (Cs : List (List ℕ)) → Bs ++ D ∷ Cs ≡ N → place_in (class_names P) D ≡ length Bs) → ((D : List ℕ) → Distinct (method_names_of (visible P D))) → ((D : List ℕ) → among (method_names_of (visible P D)) (codes "#name") ≡ false)
      → (Cs : List (List ℕ)) {p q : ℕ} {G : Table} {R : Registers} (Bs : List (List ℕ)) → Bs ++ Cs ≡ N → Seg C 0 p (lay_classes P Cs) q → Holding (length Bs) G → Room L (map (class_table P) Bs) → Lays C L (at 0 p R [] (laying (map (class_table P) Bs) G o)) (5 * length Cs + 3 * visible_in P Cs) q o (map (class_table P) N) (λ G' R'. Holding (length N) G')
  unfolding look pairs
  lay-classes N few placed differ keyless [] {G = G} Bs e g h r =
      let all : Bs ≡ N = sym (append-nil Bs) ∙ e in
      done (none g) (ap (map (class_table P)) all) r (subst (λ (Ds : List (List ℕ)). Holding (length Ds) G) all h)
  lay-classes N few placed differ keyless (D ∷ Cs) {G = G} {R = R} Bs e g h r =
      let S = map (class_table P) Bs in
      let U = map (class_table P) Cs in
      let l : Val = Val.location (length S) in
      let R₂ = write R 2 l in
      let here = has-written R 2 l in
      let here' = has_other (write R₂ 3 name_key) 4 2 (Val.string D) (λ e. omega arith) (has_other R₂ 3 2 name_key (λ e. omega arith) here) in
      let whole : map (class_table P) N ≡ S ++ class_table P D ∷ U = ap (map (class_table P)) (sym e) ∙ map-append (class_table P) Bs (D ∷ Cs) in
      let part : S ++ class_table P D ∷ [] ≡ map (class_table P) (Bs ++ D ∷ []) = sym (map_push (class_table P) Bs D) in
      let next : (Bs ++ D ∷ []) ++ Cs ≡ N = append_assoc Bs (D ∷ []) Cs ∙ e in
      let s = split (lay_methods P (visible P D)) (lay_classes P Cs) (tail (tail (tail (tail (tail g))))) in
      slack (5 * length (D ∷ Cs) + 3 * visible_in P (D ∷ Cs)) (omega arith)
      (make-then (head g) (omega arith) r (omega (arith, ap length whole, length-append S (class_table P D ∷ U)))
      (λ r₁. step_then (do-wr_glob (head (tail g)) here (global-free (class_global P D) G (omega (arith, h.count, length-append Bs (D ∷ Cs), ap length e))))
      (step_then (do-const (head (tail (tail g))) (omega arith))
      (step_then (do-const (head (tail (tail (tail g)))) (omega arith))
      (write_then S [] (head (tail (tail (tail (tail g))))) here' (has_other (write R₂ 3 name_key) 4 3 (Val.string D) (λ e. omega arith) (has-written R₂ 3 name_key)) (has-written (write R₂ 3 name_key) 4 (Val.string D))
      refl r₁ (omega (arith, pairs-push S [], ap pairs whole, pairs-append S (class_table P D ∷ U)))
      (λ r₂. lay-on
      (lay-methods (visible P D) S ((name_key, Val.string D) ∷ []) (differ D) (fresh-first (visible P D) (Val.string D) (keyless D)) s.left here' r₂ part)
      (λ a. room-in-front (map (class_table P) (Bs ++ D ∷ [])) U (subst (Room L) (ap (map (class_table P)) (sym next) ∙ map-append (class_table P) (Bs ++ D ∷ []) Cs) a))
      (λ G' R' r₃ q. lay-classes N few placed differ keyless Cs (Bs ++ D ∷ []) next s.right
      (subst (Holding (length (Bs ++ D ∷ []))) (sym q)
      (holding-more (class_global P D) (length S) (omega (arith, length_push Bs D)) (ap suc (placed Bs D Cs e)) (length-map Bs (class_table P)) h))
      r₃)))))))

  -- an object of the class D, into register a
  lay-object : {p q : ℕ} {G : Table} {R : Registers} (a : ℕ) (D : List ℕ) (S : Tables) {T : Tables} → a < 3 → Seg C 0 p (lay_object P a D) q → look (Val.identifier (class_global P D)) G ≡ Some (Val.location (place_in (class_names P) D)) → Room L S → S ++ ((class_key, Val.location (place_in (class_names P) D)) ∷ []) ∷ [] ≡ T
      → Lays C L (at 0 p R [] (laying S G o)) 4 q o T (λ G' R'. (G' ≡ G) × Has R' a (Val.location (length S)))
  unfolding look
  lay-object {R = R} a D S b g held r e =
      let l : Val = Val.location (length S) in
      let c : Val = Val.location (place_in (class_names P) D) in
      let R₁ = write R a l in
      let here = has_other (write R₁ 3 class_key) 4 a c (λ e. omega arith) (has_other R₁ 3 a class_key (λ e. omega arith) (has-written R a l)) in
      make-then (head g) (omega arith) r (omega (arith, ap length e, length_push S ((class_key, c) ∷ [])))
      (λ r₁. step_then (do-const (head (tail g)) (omega arith))
      (step_then (do-rd_glob (head (tail (tail g))) (omega arith) held)
      (write_then S [] (head (tail (tail (tail g)))) here (has_other (write R₁ 3 class_key) 4 3 c (λ e. omega arith) (has-written R₁ 3 class_key)) (has-written (write R₁ 3 class_key) 4 c)
      refl r₁ (omega (arith, pairs-push S [], ap pairs e, pairs-push S ((class_key, c) ∷ [])))
      (λ r₂. done (last (tail (tail (tail g)))) e r₂ (refl, here)))))

  -- nil, and the top-level self
  lay-firsts : {p q : ℕ} {G : Table} {R : Registers} (S : Tables) {T : Tables} → class_count P < most_globals → Seg C 0 p (lay_object P 2 (codes "Bot") ++ (Instr.wr_glob nil_global 2 ∷ lay_object P 1 (codes "Object"))) q → Holding (class_count P) G → length S ≡ class_count P → Room L S
      → S ++ ((class_key, Val.location (place_in (class_names P) (codes "Bot"))) ∷ []) ∷ ((class_key, Val.location (place_in (class_names P) (codes "Object"))) ∷ []) ∷ [] ≡ T
      → Lays C L (at 0 p R [] (laying S G o)) 9 q o T (λ G' R'. Globals P G' × Has R' 1 (Val.location (class_count P + 1)))
  lay-firsts {G = G} S few g h n r e =
      let bot : Table = (class_key, Val.location (place_in (class_names P) (codes "Bot"))) ∷ [] in
      let object : Table = (class_key, Val.location (place_in (class_names P) (codes "Object"))) ∷ [] in
      let s = split (lay_object P 2 (codes "Bot")) (Instr.wr_glob nil_global 2 ∷ lay_object P 1 (codes "Object")) g in
      let joined = append_assoc S (bot ∷ []) (object ∷ []) ∙ e in
      lay-on (lay-object 2 (codes "Bot") S (omega arith) s.left (class-held P (codes "Bot") refl h) r refl)
      (λ a. room-in-front (S ++ bot ∷ []) (object ∷ []) (subst (Room L) (sym joined) a))
      (λ G₁ R₁ r₁ φ.
      let globals = nil-held P (length S) n (subst (Holding (class_count P)) (sym φ.0) h) in
      step_then (do-wr_glob (head s.right) φ.1 (global-free nil_global G₁ (omega (arith, h.count, ap length φ.0))))
      (lay-on (lay-object 1 (codes "Object") (S ++ bot ∷ []) (omega arith) (tail s.right) (globals.classes (codes "Object") refl) r₁ joined) (λ a. a)
      (λ G₂ R₂ r₂ ψ. done {c = 0} refl refl r₂ (subst (Globals P) (sym ψ.0) globals, subst (λ (l : ℕ). Has R₂ 1 (Val.location l)) (omega (arith, length_push S bot)) ψ.1))))

  -- the whole start-up code
  lay-all : {q : ℕ} → Orderly P → Seg C 0 0 (start_code P) q → Lays C L (at 0 0 (passed []) [] (laying [] [] o)) (5 * class_count P + 3 * pair_count P + 9) q o (tables_of P first_heap) (λ G R. Globals P G × Has R 1 (Val.location (class_count P + 1)))
  unfolding class_tables tables_of pairs
  lay-all w g =
      let s = split (lay_classes P (class_names P)) (lay_object P 2 (codes "Bot") ++ (Instr.wr_glob nil_global 2 ∷ lay_object P 1 (codes "Object"))) g in
      lay-on (lay-classes (class_names P) w.few w.placed w.differ w.keyless (class_names P) [] refl s.left (record { count = omega arith; each = λ i l. absurd (omega arith) }) (record { tables-fit = omega arith; pairs-fit = omega arith }))
      (room-in-front (map (class_table P) (class_names P)) _)
      (λ G R r h. lay-firsts (map (class_table P) (class_names P)) w.few s.right h (length-map (class_names P) (class_table P)) r refl)

-- none of the first objects is a Map
first-no-map : (l : ℕ) → bytes_eq (cell_class (get_or first_heap l no_cell)) (codes "Map") ≡ false
first-no-map zero = refl
first-no-map (suc zero) = refl
first-no-map (suc (suc l)) = refl

module _ {A : Type 0} (P : Classes A) where
  -- the objects fit where their tables and those of the classes find room
  pub fits-room : (L : Limits) (H : Heap) → Decides (fits (record { classes = P; limits = L }) H 0 0) (Room L (tables_of P H))
  unfolding fits
  fits-room L H =
      let tables = leb (class_count P + length H + 0) L.tables in
      let pairs = leb (class_count P + pair_count P + heap_pairs H + 0) L.pairs in (
        (λ e.
            let h = and_parts tables pairs e in
            record {
              tables-fit = omega (arith, length-tables P H, leb-true _ _ h.0);
              pairs-fit = omega (arith, pairs-tables P H, leb-true _ _ h.1);
            }),
        (λ r. and_from tables pairs
            (le-leb _ _ (omega (arith, length-tables P H, r.tables-fit))) (le-leb _ _ (omega (arith, pairs-tables P H, r.pairs-fit)))),
      )

  first_cell : (l : ℕ) → l < 2 → FineCell P first_heap l (get_or first_heap l no_cell)
  first_cell zero b = an_object (refl, refl, refl) refl tt
  first_cell (suc zero) b = an_object (refl, refl, refl) refl tt
  first_cell (suc (suc l)) b = absurd (omega arith)

  -- where the first objects fit, the meaning begins in a proper state
  pub first-proper : {L : Limits} {left : ℕ} → fits (record { classes = P; limits = L }) first_heap 0 0 ≡ true → Proper P L top_self (first left)
  first-proper e =
      record {
        heap-fine = record {
          fine = record { cells = first_cell; bot = ([], refl) };
          backed = record { behind = λ l fs h. absurd (both_ways _ (first-no-map l) (ap (λ (c : Cell). bytes_eq (cell_class c) (codes "Map")) h)) };
        };
        me-fine = self {l = 1} refl refl refl;
        locals-fine = tt;
        space = e;
      }

  -- how many steps the start-up code takes
  abbrev pub starting_steps : ℕ
  starting_steps = 5 * class_count P + 3 * pair_count P + 9

  -- the run has come to the place where the meaning begins
  pub record Started (C : Program) (L : Limits) (left q : ℕ) : Type 0 where
    pub globals : Table
    pub registers : Registers
    pub steps : ℕ
    pub globals-hold : Globals P globals
    pub self_in : Has registers 1 (shift P top_self)
    pub runs : Run C L steps (initial left) (goes (at 0 q registers [] (world P globals (first left))))
    pub soon : steps ≤ starting_steps

  -- the run has ended for want of room
  pub record Unstarted (C : Program) (L : Limits) (left : ℕ) : Type 0 where
    pub steps : ℕ
    pub runs : Run C L steps (initial left) (ends NoTableSpace (nothing_yet left))
    pub soon : steps ≤ starting_steps

module _ {A : Type 0} (P : Classes A) {C : Program} {L : Limits} {q : ℕ} (left : ℕ) (w : Orderly P) (g : Seg C 0 0 (start_code P) q) where
  -- where the first objects fit, the run comes to where the meaning begins
  pub starts-up : fits (record { classes = P; limits = L }) first_heap 0 0 ≡ true → Started P C L left q
  starts-up e = by (lay-all P w g) where
    by : Lays C L (initial left) (starting_steps P) q (nothing_yet left) (tables_of P first_heap) (λ G R. Globals P G × Has R 1 (Val.location (class_count P + 1))) → Started P C L left q
    by (laid j G R h b r φ) = record { globals = G; registers = R; steps = j; globals-hold = φ.0; self_in = φ.1; runs = h; soon = b }
    by (full j h b n) = absurd (n ((fits-room P L first_heap).0 e))

  -- where they do not, it ends as the meaning does
  pub fails-to-start : fits (record { classes = P; limits = L }) first_heap 0 0 ≡ false → Unstarted P C L left
  fails-to-start e = by (lay-all P w g) where
    by : Lays C L (initial left) (starting_steps P) q (nothing_yet left) (tables_of P first_heap) (λ G R. Globals P G × Has R 1 (Val.location (class_count P + 1))) → Unstarted P C L left
    by (laid j G R h b r φ) = absurd (both_ways _ e ((fits-room P L first_heap).1 r))
    by (full j h b n) = record { steps = j; runs = h; soon = b }
