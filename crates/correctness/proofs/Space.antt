-- When the store has room for what is written and made. Assumes nothing.
use Rattle.std.proofs.Common.{◌≡◌, ℕ, zero, suc, ◌+◌, ◌<◌, ◌≤◌, Bool, true, false, cond, ltb, leb, List, [], ◌∷◌, ◌++◌, length, get_or, set, is_some, Some, None, codes, Decides, Option, sym, refl, ap, ◌∙◌, subst, ⊎_elim, arith}
use Rattle.std.specs.Option.{option_map}
use Rattle.std.specs.Str.{bytes_eq}
use Rattle.std.proofs.lemmas.List.{length-append, length-set, set_past}
use Rattle.std.proofs.lemmas.Bool.{and_parts, and_from, both_ways, cases_lt, le-leb, leb-true, le-ltb, lt-ltb}
use Rattle.std.proofs.lemmas.Bool.Decides.{Decides-ltb, Decides-like, same_from_decides}
use Rattle.store.specs.Val.{Val}
use Rattle.store.specs.Tables as store
use Rattle.store.specs.Tables.{Table, Tables, look, put, pairs, made, takes}
use Rattle.store.proofs.Tables.{length-put-present, length-put-new, length-make, pairs-make, read-make, read-unmade, takes-new, takes-present}
use Rattle.machine.specs.Limits.{Limits}
use Rattle.rube.specs.Classes.{Classes, class_count, pair_count}
use Rattle.rube.specs.Heap.{Cell, Heap, no_cell, cell_table, with_table, fields_of, cell_pairs, heap_pairs, Setting, fits, new_pairs, put_at}
use Rattle.rube.specs.Meaning.{cells_of}
use Rattle.compiler.specs.Layout.{class_key, contents_key}
use Rattle.correctness.specs.Fitting.{FieldName}
use Rattle.correctness.proofs.Relation.{shift, tables_of}
use Rattle.correctness.proofs.Tabled.{cells-object, length-tables, length-made, no-contents-yet, pairs-tables, cell-here, object-table-here, read-field, read-key}

-- a write takes a pair where the key is new
pub length-put : (k v : Val) (t : Table) → length (put k v t) ≡ length t + new_pairs k t
length-put k v t = by (look k t) refl where
  by : (o : Option Val) → look k t ≡ o → length (put k v t) ≡ length t + cond (is_some o) 0 1
  by None e = length-put-new k v t e
  by (Some w) e = length-put-present k v t (ap is_some e) ∙ omega arith

-- pairs of two parts of a heap
pub heap_pairs-append : (H R : Heap) → heap_pairs (H ++ R) ≡ heap_pairs H + heap_pairs R
unfolding heap_pairs
heap_pairs-append [] R = omega arith
heap_pairs-append (x ∷ H) R = omega (arith, heap_pairs-append H R)

heap_pairs-set : (H : Heap) (l : ℕ) (x : Cell) → l < length H → heap_pairs (set H l x) + cell_pairs (get_or H l no_cell) ≡ heap_pairs H + cell_pairs x
unfolding heap_pairs
heap_pairs-set [] l x b = absurd (omega arith)
heap_pairs-set (y ∷ H) zero x b = omega arith
heap_pairs-set (y ∷ H) (suc l) x b = omega (arith, heap_pairs-set H l x (omega arith))

cell_pairs-with : (x : Cell) (k v : Val) → cell_pairs (with_table (put k v (cell_table x)) x) ≡ cell_pairs x + new_pairs k (cell_table x)
cell_pairs-with (Cell.object C fs) k v = omega (arith, length-put k v fs)
cell_pairs-with (Cell.contents t) k v = length-put k v t

-- a write to a cell of the heap takes a pair where the key is new
pub heap_pairs-put_at : (H : Heap) (l : ℕ) (k v : Val) → l < length H → heap_pairs (put_at H l k v) ≡ heap_pairs H + new_pairs k (fields_of H l)
heap_pairs-put_at H l k v b =
    omega (arith, heap_pairs-set H l (with_table (put k v (fields_of H l)) (get_or H l no_cell)) b, cell_pairs-with (get_or H l no_cell) k v)

heap_pairs-put_at-most : (H : Heap) (l : ℕ) (k v : Val) → heap_pairs (put_at H l k v) ≤ heap_pairs H + new_pairs k (fields_of H l)
heap_pairs-put_at-most H l k v =
    ⊎_elim (λ (b : l < length H). omega (arith, heap_pairs-put_at H l k v b))
    (λ (b : length H ≤ l). omega (arith, ap heap_pairs (set_past H l (with_table (put k v (fields_of H l)) (get_or H l no_cell)) b)))
    (cases_lt l (length H))

-- a new object takes as many pairs as tables
pub heap_pairs-cells : (C : List ℕ) (H : Heap) → heap_pairs (cells_of C H) ≡ length (cells_of C H)
unfolding heap_pairs
heap_pairs-cells C H = by (bytes_eq C (codes "Map")) where
  by : (b : Bool) → heap_pairs (cond b (Cell.object C ((contents_key, Val.location (suc (length H))) ∷ []) ∷ Cell.contents [] ∷ []) (Cell.object C [] ∷ [])) ≡ length (cond b (Cell.object C ((contents_key, Val.location (suc (length H))) ∷ []) ∷ Cell.contents [] ∷ []) (Cell.object C [] ∷ []))
  by true = refl
  by false = refl

-- A table is made, and a pair with a new key written at l: both find room, or the table does not, or the pair does not
pub data Makes (L : Limits) (T : Tables) (l : ℕ) (k : Val) : Bool → Type 0 where
  both_fit : length T < L.tables → takes L.pairs (T ++ [] ∷ []) l k ≡ true → Makes L T l k true
  no_table : L.tables ≤ length T → Makes L T l k false
  no_pair : length T < L.tables → takes L.pairs (T ++ [] ∷ []) l k ≡ false → Makes L T l k false

-- a Map takes two: the table of its class, and then, with T' there, the table of its contents
pub data MakesMap (L : Limits) (T T' : Tables) (l : ℕ) : Bool → Type 0 where
  first_fails : Makes L T l class_key false → MakesMap L T T' l false
  first_fits : {b : Bool} → Makes L T l class_key true → Makes L T' l contents_key b → MakesMap L T T' l b

module _ {A : Type 0} (P : Classes A) (L : Limits) where
  -- the classes, with a store of this size
  abbrev pub within : Setting A
  within = record { classes = P; limits = L }

  -- so many tables and pairs more find room
  pub record Room (H : Heap) (t p : ℕ) : Type 0 where
    pub tables : length (tables_of P H) + t ≤ L.tables
    pub pairs : pairs (tables_of P H) + p ≤ L.pairs

  -- that is what it means to fit
  pub fits-decides : (H : Heap) (t p : ℕ) → Decides (fits within H t p) (Room H t p)
  unfolding fits
  fits-decides H t p =
      let a = leb (class_count P + length H + t) L.tables in
      let b = leb (class_count P + pair_count P + heap_pairs H + p) L.pairs in (
        (λ e.
            let h = and_parts a b e in
            record { tables = omega (arith, length-tables P H, leb-true _ _ h.0); pairs = omega (arith, pairs-tables P H, leb-true _ _ h.1) }),
        (λ r. and_from a b (le-leb _ _ (omega (arith, length-tables P H, r.tables))) (le-leb _ _ (omega (arith, pairs-tables P H, r.pairs)))),
      )

  fits-from : (H : Heap) (t p : ℕ) → length (tables_of P H) + t ≤ L.tables → pairs (tables_of P H) + p ≤ L.pairs → fits within H t p ≡ true
  fits-from H t p a b = (fits-decides H t p).1 (record { tables = a; pairs = b })

  -- what has room has it with less
  pub fits-less : (H : Heap) (t p t' p' : ℕ) → t ≤ t' → p ≤ p' → fits within H t' p' ≡ true → fits within H t p ≡ true
  fits-less H t p t' p' a b e =
      let r = (fits-decides H t' p').0 e in
      fits-from H t p (omega (arith, r.tables)) (omega (arith, r.pairs))

  -- what has none has none with more
  pub fits-not-more : (H : Heap) (t p t' p' : ℕ) → t ≤ t' → p ≤ p' → fits within H t p ≡ false → fits within H t' p' ≡ false
  fits-not-more H t p t' p' a b e = by (fits within H t' p') refl where
    by : (c : Bool) → fits within H t' p' ≡ c → c ≡ false
    by true q = absurd (both_ways _ e (fits-less H t p t' p' a b q))
    by false q = refl

  -- one more table finds room where it fits
  pub table_fits : (H : Heap) → fits within H 0 0 ≡ true → ltb (length (tables_of P H)) L.tables ≡ fits within H 1 0
  table_fits H e =
      let r = (fits-decides H 0 0).0 e in
      same_from_decides _ _ (Decides-ltb (length (tables_of P H)) L.tables)
      (Decides-like _ (λ (q : Room H 1 0). omega (arith, q.tables)) (λ b. record { tables = omega arith; pairs = omega (arith, r.pairs) }) (fits-decides H 1 0))

  -- one more pair finds room where it fits
  pub pair_fits : (H : Heap) → fits within H 0 0 ≡ true → ltb (pairs (tables_of P H)) L.pairs ≡ fits within H 0 1
  pair_fits H e =
      let r = (fits-decides H 0 0).0 e in
      same_from_decides _ _ (Decides-ltb (pairs (tables_of P H)) L.pairs)
      (Decides-like _ (λ (q : Room H 0 1). omega (arith, q.pairs)) (λ b. record { tables = omega (arith, r.tables); pairs = omega arith }) (fits-decides H 0 1))

  -- a write finds room where the key is there or one more pair fits
  takes-is : (H : Heap) (l : ℕ) (k : Val) (t : Table) (key : Val) → fits within H 0 0 ≡ true → l < length (tables_of P H) → store.read (tables_of P H) l key ≡ option_map (shift P) (look k t) → takes L.pairs (tables_of P H) l key ≡ fits within H 0 (new_pairs k t)
  takes-is H l k t key e b r = by (look k t) r where
    here : made (tables_of P H) l ≡ true
    here = lt-ltb l (length (tables_of P H)) b

    by : (o : Option Val) → store.read (tables_of P H) l key ≡ option_map (shift P) o → takes L.pairs (tables_of P H) l key ≡ fits within H 0 (cond (is_some o) 0 1)
    by None q = takes-new L.pairs (tables_of P H) l key here q ∙ pair_fits H e
    by (Some v) q = takes-present L.pairs (tables_of P H) l key here (ap is_some q) ∙ sym e

  -- so a write of a field finds room where the meaning says
  pub takes_field : (H : Heap) (l : ℕ) {C : List ℕ} {fs : Table} (x : List ℕ) → fits within H 0 0 ≡ true → get_or H l no_cell ≡ Cell.object C fs → FieldName x → takes L.pairs (tables_of P H) (class_count P + l) (Val.string x) ≡ fits within H 0 (new_pairs (Val.string x) (fields_of H l))
  takes_field H l {C} {fs} x s e n =
      takes-is H (class_count P + l) (Val.string x) fs (Val.string x) s (object-table-here P H l e) (read-field P H l x e n)
      ∙ ap (λ (y : Cell). fits within H 0 (new_pairs (Val.string x) (cell_table y))) (sym e)

  -- and so does a write of a key
  pub takes_key : (H : Heap) (l : ℕ) {t : Table} (k : Val) → fits within H 0 0 ≡ true → l < length H → get_or H l no_cell ≡ Cell.contents t → takes L.pairs (tables_of P H) (class_count P + l) (shift P k) ≡ fits within H 0 (new_pairs k (fields_of H l))
  takes_key H l {t} k s b e =
      takes-is H (class_count P + l) k t (shift P k) s (cell-here P H l b) (read-key P H l k b e)
      ∙ ap (λ (y : Cell). fits within H 0 (new_pairs k (cell_table y))) (sym e)

  -- after a write that found room the heap fits
  pub fits-after-put : (H : Heap) (l : ℕ) (k v : Val) → fits within H 0 (new_pairs k (fields_of H l)) ≡ true → fits within (put_at H l k v) 0 0 ≡ true
  fits-after-put H l k v e =
      let r = (fits-decides H 0 (new_pairs k (fields_of H l))).0 e in
      let n = length-set H l (with_table (put k v (fields_of H l)) (get_or H l no_cell)) in
      fits-from (put_at H l k v) 0 0
      (omega (arith, r.tables, n, length-tables P H, length-tables P (put_at H l k v)))
      (omega (arith, r.pairs, heap_pairs-put_at-most H l k v, pairs-tables P H, pairs-tables P (put_at H l k v)))

  -- cells take their tables and pairs
  pub fits_more : (H R : Heap) (t p : ℕ) → fits within (H ++ R) t p ≡ fits within H (length R + t) (heap_pairs R + p)
  unfolding fits
  fits_more H R t p =
      let a : class_count P + length (H ++ R) + t ≡ class_count P + length H + (length R + t) = omega (arith, length-append H R) in
      let b : class_count P + pair_count P + heap_pairs (H ++ R) + p ≡ class_count P + pair_count P + heap_pairs H + (heap_pairs R + p) = omega (arith, heap_pairs-append H R) in
      rw (a, b)

  -- after an object was made that found room the heap fits
  pub fits-after-make : (C : List ℕ) (H : Heap) → fits within H (length (cells_of C H)) (length (cells_of C H)) ≡ true → fits within (H ++ cells_of C H) 0 0 ≡ true
  fits-after-make C H e =
      fits_more H (cells_of C H) 0 0
      ∙ fits-less H (length (cells_of C H) + 0) (heap_pairs (cells_of C H) + 0) (length (cells_of C H)) (length (cells_of C H)) (omega arith) (omega (arith, heap_pairs-cells C H)) e

  -- a table is made, and a new key written in a table that is there
  makes : (H : Heap) (l : ℕ) (k : Val) → fits within H 0 0 ≡ true → l < length (tables_of P H) + 1 → store.read (tables_of P H) l k ≡ None → Makes L (tables_of P H) l k (fits within H 1 1)
  makes H l k e b n =
      ⊎_elim
      (λ (f : length (tables_of P H) < L.tables). ⊎_elim
      (λ (g : pairs (tables_of P H) < L.pairs). subst (Makes L (tables_of P H) l k) (sym (fits-from H 1 1 (omega arith) (omega arith))) (both_fit f (taken ∙ lt-ltb _ _ g)))
      (λ (g : L.pairs ≤ pairs (tables_of P H)). subst (Makes L (tables_of P H) l k) (sym (no (λ r. omega (arith, r.pairs)))) (no_pair f (taken ∙ le-ltb _ _ g)))
      (cases_lt (pairs (tables_of P H)) L.pairs))
      (λ (f : L.tables ≤ length (tables_of P H)). subst (Makes L (tables_of P H) l k) (sym (no (λ r. omega (arith, r.tables)))) (no_table f))
      (cases_lt (length (tables_of P H)) L.tables) where
        taken : takes L.pairs (tables_of P H ++ [] ∷ []) l k ≡ ltb (pairs (tables_of P H)) L.pairs
        taken =
            takes-new L.pairs (tables_of P H ++ [] ∷ []) l k (lt-ltb _ _ (omega (arith, length-make (tables_of P H)))) (read-make (tables_of P H) l k ∙ n)
            ∙ ap (λ (m : ℕ). ltb m L.pairs) (pairs-make (tables_of P H))

        no : (Room H 1 1 → ⊥) → fits within H 1 1 ≡ false
        no f = by (fits within H 1 1) refl where
          by : (b : Bool) → fits within H 1 1 ≡ b → b ≡ false
          by true q = absurd (f ((fits-decides H 1 1).0 q))
          by false q = refl

  -- an object's table and its class find room, or the first that does not is known
  pub makes-class : (H : Heap) → fits within H 0 0 ≡ true → Makes L (tables_of P H) (class_count P + length H) class_key (fits within H 1 1)
  makes-class H e =
      makes H (class_count P + length H) class_key e (omega (arith, length-tables P H))
      (read-unmade (tables_of P H) (class_count P + length H) class_key (le-ltb _ _ (omega (arith, length-tables P H))))

  -- the same of a class that is not Map
  pub makes-object : (C : List ℕ) (H : Heap) → fits within H 0 0 ≡ true → bytes_eq C (codes "Map") ≡ false → Makes L (tables_of P H) (class_count P + length H) class_key (fits within H (length (cells_of C H)) (length (cells_of C H)))
  makes-object C H e m = rw (cells-object C H m) (makes-class H e)

  -- an object that is no Map takes one table and one pair
  pub fits-object : (C : List ℕ) (H : Heap) (t p : ℕ) → fits within (H ++ Cell.object C [] ∷ []) t p ≡ fits within H (suc t) (suc p)
  unfolding heap_pairs
  fits-object C H t p =
      let a : length (Cell.object C [] ∷ []) + t ≡ suc t = omega arith in
      let b : heap_pairs (Cell.object C [] ∷ []) + p ≡ suc p = omega arith in
      fits_more H (Cell.object C [] ∷ []) t p ∙ rw (a, b)

  makes-contents : (H : Heap) → fits within (H ++ Cell.object (codes "Map") [] ∷ []) 0 0 ≡ true → Makes L (tables_of P (H ++ Cell.object (codes "Map") [] ∷ [])) (class_count P + length H) contents_key (fits within (H ++ Cell.object (codes "Map") [] ∷ []) 1 1)
  makes-contents H e =
      let K = H ++ Cell.object (codes "Map") [] ∷ [] in
      makes K (class_count P + length H) contents_key e (omega (arith, length-made P H (Cell.object (codes "Map") []))) (no-contents-yet P H (codes "Map"))

  -- a Map's two tables and two pairs find room, or the first that does not is known
  pub makes-map : (H : Heap) → fits within H 0 0 ≡ true → MakesMap L (tables_of P H) (tables_of P (H ++ Cell.object (codes "Map") [] ∷ [])) (class_count P + length H) (fits within H 2 2)
  makes-map H e = by (fits within H 1 1) refl (makes-class H e) where
    by : (b : Bool) → fits within H 1 1 ≡ b → Makes L (tables_of P H) (class_count P + length H) class_key b → MakesMap L (tables_of P H) (tables_of P (H ++ Cell.object (codes "Map") [] ∷ [])) (class_count P + length H) (fits within H 2 2)
    by true q m =
        subst (MakesMap L (tables_of P H) (tables_of P (H ++ Cell.object (codes "Map") [] ∷ [])) (class_count P + length H)) (fits-object (codes "Map") H 1 1)
        (first_fits m (makes-contents H (fits-object (codes "Map") H 0 0 ∙ q)))
    by false q m =
        subst (MakesMap L (tables_of P H) (tables_of P (H ++ Cell.object (codes "Map") [] ∷ [])) (class_count P + length H)) (sym (fits-not-more H 1 1 2 2 (omega arith) (omega arith) q)) (first_fails m)
