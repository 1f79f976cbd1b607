-- How the meaning's heap stands in the machine's tables. Assumes nothing.
use Rattle.std.proofs.Common.{◌≡◌, ℕ, suc, ◌+◌, ◌-◌, ◌<◌, ◌≤◌, Bool, true, false, cond, ◌||◌, List, [], ◌∷◌, ◌++◌, map, length, get_or, set, Some, None, codes, sym, refl, ap, ◌∙◌, ⊎_elim, arith}
use Rattle.std.specs.Option.{option_map}
use Rattle.std.specs.Str.{bytes_eq}
use Rattle.std.proofs.lemmas.Slice.Eq.{bytes_eq-Decides}
use Rattle.std.proofs.lemmas.List.{append_assoc, length-append, length-map, map-append, map-set, get_or_at, get_or-map, get_or_past, get_or_append_left, get_or-append-add, set_at, set-append_right}
use Rattle.std.proofs.lemmas.Bool.{cases_lt, cond-false}
use Rattle.std.proofs.lemmas.Bool.Decides.{Decides-eqb, Decides-like, same_from_decides}
use Rattle.store.specs.Val.{Val, equal_val}
use Rattle.store.specs.Tables as store
use Rattle.store.specs.Tables.{Table, Tables, look, put, pairs}
use Rattle.rube.specs.Classes.{Named, Classes, among, find, visible, lookup, class_names, known, class_count, visible_in, pair_count}
use Rattle.rube.specs.Heap.{Cell, Heap, no_cell, cell_table, with_table, cell_pairs, heap_pairs, put_at}
use Rattle.rube.specs.Meaning.{cells_of}
use Rattle.compiler.specs.Layout.{class_key, name_key, contents_key, place_in, function_of}
use Rattle.correctness.specs.Fitting.{FieldName, MethodName}
use Rattle.correctness.proofs.Relation.{shift, method_pair, class_table, class_tables, table_of, tables_of}
use Rattle.correctness.proofs.Values.{equal-same, string-key, field-no-class, contents-no-class, method-no-name, through-cond, look-shift, put-shift}

-- a name that is among others stands at its place
pub place-below : (Cs : List (List ℕ)) (C : List ℕ) → among Cs C ≡ true → place_in Cs C < length Cs
place-below [] C h = let z : ◌≡◌ {A = ℕ} 0 1 = cc in absurd (omega arith)
place-below (D ∷ Ds) C h = by (bytes_eq D C) (place-below Ds C) h where
  by : (b : Bool) → (among Ds C ≡ true → place_in Ds C < length Ds) → (b || among Ds C) ≡ true → cond b 0 (suc (place_in Ds C)) < suc (length Ds)
  by true f g = omega arith
  by false f g = omega (arith, f g)

-- and is what stands there
pub at_place : (Cs : List (List ℕ)) (C : List ℕ) → among Cs C ≡ true → get_or Cs (place_in Cs C) [] ≡ C
at_place [] C h = let z : ◌≡◌ {A = ℕ} 0 1 = cc in absurd (omega arith)
at_place (D ∷ Ds) C h = by (bytes_eq D C) refl (at_place Ds C) h where
  by : (b : Bool) → bytes_eq D C ≡ b → (among Ds C ≡ true → get_or Ds (place_in Ds C) [] ≡ C) → (b || among Ds C) ≡ true → get_or (D ∷ Ds) (cond b 0 (suc (place_in Ds C))) [] ≡ C
  by true e f g = (bytes_eq-Decides D C).0 e
  by false e f g = f g

-- pairs of two lists of tables
pairs-append : (S T : Tables) → pairs (S ++ T) ≡ pairs S + pairs T
unfolding pairs
pairs-append [] T = omega arith
pairs-append (s ∷ S) T = omega (arith, pairs-append S T)

-- a write to the cell behind others
pub put-behind : (H R : Heap) (x : Cell) (k v : Val) → put_at (H ++ x ∷ R) (length H) k v ≡ H ++ with_table (put k v (cell_table x)) x ∷ R
put-behind H R x k v =
    ap (λ (y : Cell). set (H ++ x ∷ R) (length H) (with_table (put k v (cell_table y)) y)) (get_or_at H x R no_cell (length H) refl)
    ∙ set_at H x R (with_table (put k v (cell_table x)) x) (length H) refl

-- what has an object is within the heap
pub object-here : (H : Heap) (l : ℕ) {C : List ℕ} {fs : Table} → get_or H l no_cell ≡ Cell.object C fs → l < length H
object-here H l {C} {fs} e =
    ⊎_elim (λ (b : l < length H). b)
    (λ (b : length H ≤ l).
    let g = get_or_past H l no_cell b in
    let z : ◌≡◌ {A = ℕ} 0 1 = cc in
    absurd (omega arith))
    (cases_lt l (length H))

-- what was just made is an object
pub new-object : (H : Heap) (C : List ℕ) → get_or (H ++ Cell.object C [] ∷ []) (length H) no_cell ≡ Cell.object C []
new-object H C = get_or_at H (Cell.object C []) [] no_cell (length H) refl

-- any object but a Map is one cell
pub cells-object : (C : List ℕ) (H : Heap) → bytes_eq C (codes "Map") ≡ false → cells_of C H ≡ Cell.object C [] ∷ []
cells-object C H h = cond-false (bytes_eq C (codes "Map")) _ _ h

module _ {A : Type 0} (P : Classes A) where
  -- a table for each class and each cell
  pub length-tables : (H : Heap) → length (tables_of P H) ≡ class_count P + length H
  unfolding tables_of class_tables
  length-tables H = simp (length-append, length-map)

  pairs-classes : (Cs : List (List ℕ)) → pairs (map (class_table P) Cs) ≡ length Cs + visible_in P Cs
  unfolding pairs
  pairs-classes [] = refl
  pairs-classes (C ∷ Cs) = omega (arith, pairs-classes Cs, length-map (visible P C) (method_pair P))

  -- an object's table has as many pairs as the object takes
  pub length-table : (x : Cell) → length (table_of P x) ≡ cell_pairs x
  length-table (Cell.object C fs) = ap suc (length-map fs _)
  length-table (Cell.contents t) = length-map t _

  pairs-cells : (H : Heap) → pairs (map (table_of P) H) ≡ heap_pairs H
  unfolding pairs heap_pairs
  pairs-cells [] = refl
  pairs-cells (x ∷ H) = omega (arith, length-table x, pairs-cells H)

  -- all pairs: a name for each class, a pair for each method that one finds, and those of the objects
  pub pairs-tables : (H : Heap) → pairs (tables_of P H) ≡ class_count P + pair_count P + heap_pairs H
  unfolding tables_of class_tables
  pairs-tables H =
      omega (arith, pairs-append (map (class_table P) (class_names P)) (map (table_of P) H), pairs-classes (class_names P), pairs-cells H)

  -- a known class has a table, which comes before all objects
  pub class-made : (C : List ℕ) → known P C ≡ true → place_in (class_names P) C < class_count P
  class-made C h = place-below (class_names P) C h

  -- so a known class has a table, whatever the heap
  pub class-here : (H : Heap) (C : List ℕ) → known P C ≡ true → place_in (class_names P) C < length (tables_of P H)
  class-here H C h = omega (arith, class-made C h, length-tables H)

  -- which holds what the class has
  pub table-of-class : (H : Heap) (C : List ℕ) → known P C ≡ true → get_or (tables_of P H) (place_in (class_names P) C) [] ≡ class_table P C
  unfolding tables_of class_tables
  table-of-class H C h =
      let b = class-made C h in
      let n = length-map (class_names P) (class_table P) in
      get_or_append_left (map (class_table P) (class_names P)) (map (table_of P) H) [] (place_in (class_names P) C) (omega arith)
      ∙ get_or-map (class_table P) (class_names P) (place_in (class_names P) C) [] [] b
      ∙ ap (class_table P) (at_place (class_names P) C h)

  -- a read of a class table
  pub read-class : (H : Heap) (C : List ℕ) (k : Val) → known P C ≡ true → store.read (tables_of P H) (place_in (class_names P) C) k ≡ look k (class_table P C)
  read-class H C k h = ap (look k) (table-of-class H C h)

  -- two known classes at one place are the same
  pub place_same : (C D : List ℕ) → known P C ≡ true → known P D ≡ true → place_in (class_names P) C ≡ place_in (class_names P) D → C ≡ D
  place_same C D h g e =
      sym (at_place (class_names P) C h) ∙ ap (λ (n : ℕ). get_or (class_names P) n []) e ∙ at_place (class_names P) D g

  -- so class tables are equal where the names are
  pub equal-classes : (C D : List ℕ) → known P C ≡ true → known P D ≡ true → equal_val (Val.location (place_in (class_names P) C)) (Val.location (place_in (class_names P) D)) ≡ bytes_eq C D
  unfolding equal_val
  equal-classes C D h g =
      same_from_decides _ _ (Decides-eqb (place_in (class_names P) C) (place_in (class_names P) D))
      (Decides-like (bytes_eq C D) (ap (place_in (class_names P))) (place_same C D h g) (bytes_eq-Decides C D))

  -- a class table holds the name, and the functions of the methods that the class finds
  pub read_name : (C : List ℕ) → look name_key (class_table P C) ≡ Some (Val.string C)
  unfolding look
  read_name C = rw (equal-same name_key)

  look-methods : (x : List ℕ) (ms : List (Named A)) → look (Val.string x) (map (method_pair P) ms) ≡ option_map (λ f. Val.identifier (function_of f)) (find x ms)
  unfolding look
  look-methods x [] = refl
  look-methods x (m ∷ ms) =
      rw (string-key m.name x, look-methods x ms)
      (through-cond (option_map (λ f. Val.identifier (function_of f))) (bytes_eq m.name x) (Some m.callee) (find x ms))

  -- under a method's name a class table holds the function of the method that the class finds
  pub read-method : (C x : List ℕ) → MethodName x → look (Val.string x) (class_table P C) ≡ option_map (λ f. Val.identifier (function_of f)) (lookup P C x)
  unfolding look
  read-method C x h = rw (method-no-name x h) (look-methods x (visible P C))

  -- a cell's table stands behind the class tables
  pub table-of-cell : (H : Heap) (l : ℕ) → l < length H → get_or (tables_of P H) (class_count P + l) [] ≡ table_of P (get_or H l no_cell)
  unfolding tables_of class_tables
  table-of-cell H l b =
      ap (λ (n : ℕ). get_or (map (class_table P) (class_names P) ++ map (table_of P) H) (n + l) []) (sym (length-map (class_names P) (class_table P)))
      ∙ get_or-append-add (map (class_table P) (class_names P)) (map (table_of P) H) l []
      ∙ get_or-map (table_of P) H l no_cell [] b

  -- a cell of the heap has a table
  pub cell-here : (H : Heap) (l : ℕ) → l < length H → class_count P + l < length (tables_of P H)
  cell-here H l b = omega (arith, length-tables H)

  -- a cell in place of another is a table in place of another
  pub set-table : (H : Heap) (l : ℕ) (x : Cell) → set (tables_of P H) (class_count P + l) (table_of P x) ≡ tables_of P (set H l x)
  unfolding tables_of class_tables
  set-table H l x =
      let e : class_count P + l - class_count P ≡ l = omega arith in
      set-append_right (map (class_table P) (class_names P)) (map (table_of P) H) (class_count P) (class_count P + l) (table_of P x) (length-map (class_names P) (class_table P)) (omega arith)
      ∙ ap (λ (n : ℕ). map (class_table P) (class_names P) ++ set (map (table_of P) H) n (table_of P x)) e
      ∙ ap (λ (T : Tables). map (class_table P) (class_names P) ++ T) (sym (map-set (table_of P) H l x))

  write_cell : (H : Heap) (l : ℕ) (k v : Val) (x y : Cell) → l < length H → get_or H l no_cell ≡ x → put k v (table_of P x) ≡ table_of P y → store.write (tables_of P H) (class_count P + l) k v ≡ tables_of P (set H l y)
  write_cell H l k v x y b e f =
      ap (λ (t : Table). set (tables_of P H) (class_count P + l) (put k v t)) (table-of-cell H l b ∙ ap (table_of P) e)
      ∙ ap (set (tables_of P H) (class_count P + l)) f
      ∙ set-table H l y

  read_cell : (H : Heap) (l : ℕ) (k : Val) (x : Cell) → l < length H → get_or H l no_cell ≡ x → store.read (tables_of P H) (class_count P + l) k ≡ look k (table_of P x)
  read_cell H l k x b e = ap (look k) (table-of-cell H l b ∙ ap (table_of P) e)

  -- so has an object
  pub object-table-here : (H : Heap) (l : ℕ) {C : List ℕ} {fs : Table} → get_or H l no_cell ≡ Cell.object C fs → class_count P + l < length (tables_of P H)
  object-table-here H l e = cell-here H l (object-here H l e)

  -- an object's table holds its class, and its fields moved up
  pub read-object-class : (H : Heap) (l : ℕ) {C : List ℕ} {fs : Table} → get_or H l no_cell ≡ Cell.object C fs → store.read (tables_of P H) (class_count P + l) class_key ≡ Some (Val.location (place_in (class_names P) C))
  unfolding look
  read-object-class H l {C} {fs} e = read_cell H l class_key (Cell.object C fs) (object-here H l e) e ∙ rw (equal-same class_key)

  -- a key that is not the class's
  read-other : (H : Heap) (l : ℕ) {C : List ℕ} {fs : Table} (k : Val) → get_or H l no_cell ≡ Cell.object C fs → equal_val class_key (shift P k) ≡ false → store.read (tables_of P H) (class_count P + l) (shift P k) ≡ option_map (shift P) (look k fs)
  unfolding look
  read-other H l {C} {fs} k e d =
      read_cell H l (shift P k) (Cell.object C fs) (object-here H l e) e ∙ rw d (look-shift P k fs)

  write-other : (H : Heap) (l : ℕ) {C : List ℕ} {fs : Table} (k v : Val) → get_or H l no_cell ≡ Cell.object C fs → equal_val class_key (shift P k) ≡ false → store.write (tables_of P H) (class_count P + l) (shift P k) (shift P v) ≡ tables_of P (put_at H l k v)
  unfolding put
  write-other H l {C} {fs} k v e d =
      write_cell H l (shift P k) (shift P v) (Cell.object C fs) (Cell.object C (put k v fs)) (object-here H l e) e (rw (d, put-shift P k v fs))
      ∙ ap (λ (x : Cell). tables_of P (set H l (with_table (put k v (cell_table x)) x))) (sym e)

  -- a read of a field
  pub read-field : (H : Heap) (l : ℕ) {C : List ℕ} {fs : Table} (x : List ℕ) → get_or H l no_cell ≡ Cell.object C fs → FieldName x → store.read (tables_of P H) (class_count P + l) (Val.string x) ≡ option_map (shift P) (look (Val.string x) fs)
  read-field H l x e n = read-other H l (Val.string x) e (field-no-class x n)

  -- a write of a field
  pub write-field : (H : Heap) (l : ℕ) {C : List ℕ} {fs : Table} (x : List ℕ) (v : Val) → get_or H l no_cell ≡ Cell.object C fs → FieldName x → store.write (tables_of P H) (class_count P + l) (Val.string x) (shift P v) ≡ tables_of P (put_at H l (Val.string x) v)
  write-field H l x v e n = write-other H l (Val.string x) v e (field-no-class x n)

  -- a Map's table holds where its contents are
  pub read-contents : (H : Heap) (l : ℕ) {C : List ℕ} → get_or H l no_cell ≡ Cell.object C ((contents_key, Val.location (suc l)) ∷ []) → store.read (tables_of P H) (class_count P + l) contents_key ≡ Some (Val.location (class_count P + suc l))
  unfolding look
  read-contents H l e = read-other H l contents_key e contents-no-class ∙ rw (equal-same contents_key)

  -- contents hold keys and values moved up
  pub read-key : (H : Heap) (l : ℕ) {t : Table} (k : Val) → l < length H → get_or H l no_cell ≡ Cell.contents t → store.read (tables_of P H) (class_count P + l) (shift P k) ≡ option_map (shift P) (look k t)
  read-key H l {t} k b e = read_cell H l (shift P k) (Cell.contents t) b e ∙ look-shift P k t

  -- a write of a key
  pub write-key : (H : Heap) (l : ℕ) {t : Table} (k v : Val) → l < length H → get_or H l no_cell ≡ Cell.contents t → store.write (tables_of P H) (class_count P + l) (shift P k) (shift P v) ≡ tables_of P (put_at H l k v)
  write-key H l {t} k v b e =
      write_cell H l (shift P k) (shift P v) (Cell.contents t) (Cell.contents (put k v t)) b e (put-shift P k v t)
      ∙ ap (λ (x : Cell). tables_of P (set H l (with_table (put k v (cell_table x)) x))) (sym e)

  -- a new cell is a new table
  pub tables_more : (H : Heap) (x : Cell) → tables_of P (H ++ x ∷ []) ≡ tables_of P H ++ table_of P x ∷ []
  unfolding tables_of
  tables_more H x = rw (map-append, append_assoc)

  -- an object is made by an empty table, in which its class is written
  pub make-object : (H : Heap) (C : List ℕ) → store.write (tables_of P H ++ [] ∷ []) (class_count P + length H) class_key (Val.location (place_in (class_names P) C)) ≡ tables_of P (H ++ Cell.object C [] ∷ [])
  unfolding put
  make-object H C =
      let n = length-tables H in
      ap (λ (t : Table). set (tables_of P H ++ [] ∷ []) (class_count P + length H) (put class_key (Val.location (place_in (class_names P) C)) t)) (get_or_at (tables_of P H) [] [] [] (class_count P + length H) n)
      ∙ set_at (tables_of P H) [] [] (table_of P (Cell.object C [])) (class_count P + length H) n
      ∙ sym (tables_more H (Cell.object C []))

  -- the table behind what was just made is the next
  pub length-made : (H : Heap) (x : Cell) → length (tables_of P (H ++ x ∷ [])) ≡ class_count P + suc (length H)
  length-made H x = length-tables (H ++ x ∷ []) ∙ simp length-append (omega arith)

  -- the table that was just made is there, and stays there
  pub new-table-here : (H : Heap) → class_count P + length H < length (tables_of P H ++ [] ∷ [])
  new-table-here H = omega (arith, length-append (tables_of P H) ([] ∷ []), length-tables H)

  -- and when one more is made
  pub old-table-here : (H : Heap) (x : Cell) → class_count P + length H < length (tables_of P (H ++ x ∷ []) ++ [] ∷ [])
  old-table-here H x = omega (arith, length-append (tables_of P (H ++ x ∷ [])) ([] ∷ []), length-made H x)

  -- an object just made has no contents
  pub no-contents-yet : (H : Heap) (C : List ℕ) → store.read (tables_of P (H ++ Cell.object C [] ∷ [])) (class_count P + length H) contents_key ≡ None
  unfolding look
  no-contents-yet H C = read-other (H ++ Cell.object C [] ∷ []) (length H) contents_key (new-object H C) contents-no-class

  -- a Map has one more empty table, whose place is written in the first
  pub make-map : (H : Heap) → store.write (tables_of P (H ++ Cell.object (codes "Map") [] ∷ []) ++ [] ∷ []) (class_count P + length H) contents_key (Val.location (class_count P + suc (length H))) ≡ tables_of P (H ++ cells_of (codes "Map") H)
  unfolding put
  make-map H =
      let o = Cell.object (codes "Map") [] in
      let k = contents_key in
      let v = Val.location (suc (length H)) in
      ap (λ (T : Tables). store.write T (class_count P + length H) k (shift P v)) (sym (tables_more (H ++ o ∷ []) (Cell.contents [])) ∙ ap (tables_of P) (append_assoc H (o ∷ []) (Cell.contents [] ∷ [])))
      ∙ write-other (H ++ o ∷ Cell.contents [] ∷ []) (length H) k v (get_or_at H o (Cell.contents [] ∷ []) no_cell (length H) refl) contents-no-class
      ∙ ap (tables_of P) (put-behind H (Cell.contents [] ∷ []) o k v)
