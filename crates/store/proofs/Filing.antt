-- Tables filed as one list of pairs: make, read and write on the list are those of the tables. Assumes nothing.
use Rattle.std.proofs.Common.{◌≡◌, ℕ, zero, suc, ◌+◌, ◌<◌, ◌≤◌, Bool, true, false, cond, List, [], ◌∷◌, ◌++◌, map, length, get_or, set, Some, None, sym, refl, ap, ◌∙◌, ⊎_elim, arith}
use Rattle.std.specs.List.{range_with_len, AllByRecursion}
use Rattle.std.proofs.lemmas.List.FromFn.{length-map-range_with_len, get_or-map-range_with_len, map-range_with_len_more}
use Rattle.std.proofs.ByRecursion.{All-weaker}
use Rattle.std.proofs.lemmas.List.{same_lists, get_or_past, length-set, get_or-set_same, get_or-set_other}
use Rattle.std.proofs.lemmas.Bool.{cases_eq, cases_lt, eq-eqb, ne_eqb}
use Rattle.text.specs.First.{first_place}
use Rattle.store.specs.Val.{Val}
use Rattle.store.specs.Tables.{Table, Tables, look, put, pairs, read, write}
use Rattle.store.specs.Filed.{Filed, fits, row_of, tables_of, Files}
use Rattle.store.proofs.Tables.{pairs_set}
use Rattle.store.proofs.Rows.{file, seek_found, seek-none, look-row, row-file, row-file-other}

-- tables that differ at l only
tables-differ : (f g : ℕ → Table) (n l : ℕ) → ((j : ℕ) → (j ≡ l → ⊥) → f j ≡ g j) → map f (range_with_len 0 n) ≡ set (map g (range_with_len 0 n)) l (f l)
tables-differ f g n l e =
    let F = map f (range_with_len 0 n) in
    let G = map g (range_with_len 0 n) in
    let long : length F ≡ n = length-map-range_with_len f 0 n in
    let same : length G ≡ n = length-map-range_with_len g 0 n in
    same_lists F (set G l (f l)) (long ∙ sym (length-set G l (f l) ∙ same))
    (λ j d q.
    let h : j < n = omega arith in
    get_or-map-range_with_len f 0 n j j d h (omega arith)
    ∙ ⊎_elim
    (λ (p : j ≡ l). ap f p ∙ sym (ap (λ (i : ℕ). get_or (set G l (f l)) i d) p ∙ get_or-set_same G l (f l) d (omega arith)))
    (λ (p : j ≡ l → ⊥). e j p ∙ sym (get_or-set_other G l j (f l) d p ∙ get_or-map-range_with_len g 0 n j j d h (omega arith)))
    (cases_eq j l))

row-high : (es : List Filed) (n l : ℕ) → AllByRecursion (λ (e : Filed). e.0.0 < n) es → n ≤ l → row_of es l ≡ []
unfolding row_of
row-high [] n l a h = refl
row-high (e ∷ es) n l a h =
    ap (λ (t : Bool). cond t ((e.0.1, e.1) ∷ row_of es l) (row_of es l)) (ne_eqb e.0.0 l (λ q. omega (arith, a.0)))
    ∙ row-high es n l a.1 h

length-tables : (es : List Filed) (n : ℕ) → length (tables_of es n) ≡ n
unfolding tables_of
length-tables es n = length-map-range_with_len (row_of es) 0 n

table_at : (es : List Filed) (n l : ℕ) → AllByRecursion (λ (e : Filed). e.0.0 < n) es → get_or (tables_of es n) l [] ≡ row_of es l
unfolding tables_of
table_at es n l a = ⊎_elim
    (λ (h : l < n). get_or-map-range_with_len (row_of es) 0 n l l [] h (omega arith))
    (λ (h : n ≤ l). get_or_past (tables_of es n) l [] (omega (arith, length-tables es n)) ∙ sym (row-high es n l a h))
    (cases_lt l n)

no_pairs : (a n : ℕ) → pairs (map (row_of []) (range_with_len a n)) ≡ 0
unfolding pairs row_of
no_pairs a zero = refl
no_pairs a (suc n) = let h = no_pairs (a + 1) n in omega arith

-- one pair more is one row that is longer by it
tables-cons : (e : Filed) (es : List Filed) (n : ℕ) → tables_of (e ∷ es) n ≡ set (tables_of es n) e.0.0 ((e.0.1, e.1) ∷ row_of es e.0.0)
unfolding tables_of row_of
tables-cons e es n =
    tables-differ (row_of (e ∷ es)) (row_of es) n e.0.0
    (λ j p. ap (λ (t : Bool). cond t ((e.0.1, e.1) ∷ row_of es j) (row_of es j)) (ne_eqb e.0.0 j (λ q. p (sym q))))
    ∙ ap (λ (t : Bool). set (tables_of es n) e.0.0 (cond t ((e.0.1, e.1) ∷ row_of es e.0.0) (row_of es e.0.0))) (eq-eqb e.0.0 e.0.0 refl)

pairs-tables : (es : List Filed) (n : ℕ) → AllByRecursion (λ (e : Filed). e.0.0 < n) es → pairs (tables_of es n) ≡ length es
unfolding tables_of
pairs-tables [] n a = no_pairs 0 n
pairs-tables (e ∷ es) n a =
    let l = e.0.0 in
    let row = (e.0.1, e.1) ∷ row_of es l in
    let p = ap pairs (tables-cons e es n) in
    let q = pairs_set (tables_of es n) l row (omega (arith, length-tables es n, a.0)) in
    let r = ap length (table_at es n l a.1) in
    let s = pairs-tables es n a.1 in
    omega arith

low-file : (p : ℕ × Val) (v : Val) (es : List Filed) (n : ℕ) → p.0 < n → AllByRecursion (λ (e : Filed). e.0.0 < n) es → AllByRecursion (λ (e : Filed). e.0.0 < n) (file p v es)
unfolding file
low-file p v [] n h a = (h, tt)
low-file p v (e ∷ es) n h a = by (fits p e) (low-file p v es n h a.1) where
  by : (t : Bool) → AllByRecursion (λ (x : Filed). x.0.0 < n) (file p v es) → AllByRecursion (λ (x : Filed). x.0.0 < n) (cond t ((e.0, v) ∷ es) (e ∷ file p v es))
  by true b = (a.0, a.1)
  by false b = (a.0, b)

pub files-none : Files [] 0 []
unfolding tables_of
files-none = record { tables = refl; low = tt }

module _ (es : List Filed) (n : ℕ) (T : Tables) (f : Files es n T) where
  pub files-length : length T ≡ n
  files-length = ap length f.tables ∙ length-tables es n

  pub files-pairs : pairs T ≡ length es
  files-pairs = ap pairs f.tables ∙ pairs-tables es n f.low

  files-row : (l : ℕ) → get_or T l [] ≡ row_of es l
  files-row l = ap (λ (z : Tables). get_or z l []) f.tables ∙ table_at es n l f.low

  pub files-make : Files es (n + 1) (T ++ [] ∷ [])
  unfolding tables_of
  files-make = record {
    tables =
        ap (λ (z : Tables). z ++ [] ∷ []) f.tables
        ∙ sym (map-range_with_len_more (row_of es) 0 n n (omega arith) ∙ ap (λ (r : Table). tables_of es n ++ r ∷ []) (row-high es n n f.low (omega arith)));
    low = All-weaker (λ (e : Filed). e.0.0 < n) (λ (e : Filed). e.0.0 < n + 1) (λ e h. omega arith) es f.low;
  }

  module _ (l : ℕ) (k : Val) where
    -- a read finds the first pair that fits
    pub files-found : (i : ℕ) (d : Filed) → first_place (fits (l, k)) es ≡ Some i → read T l k ≡ Some (get_or es i d).1
    files-found i d h = ap (look k) (files-row l) ∙ look-row l k es ∙ seek_found (l, k) es i d h

    pub files-nothing : first_place (fits (l, k)) es ≡ None → read T l k ≡ None
    files-nothing h = ap (look k) (files-row l) ∙ look-row l k es ∙ seek-none (l, k) es h

    -- a write files the pair
    pub files-file : (v : Val) → l < n → Files (file (l, k) v es) n (write T l k v)
    unfolding tables_of
    files-file v h = record {
      tables =
          ap (λ (z : Tables). write z l k v) f.tables
          ∙ ap (λ (r : Table). set (tables_of es n) l (put k v r)) (table_at es n l f.low)
          ∙ sym (tables-differ (row_of (file (l, k) v es)) (row_of es) n l (λ j p. row-file-other l k v j p es)
          ∙ ap (set (tables_of es n) l) (row-file l k v es));
      low = low-file (l, k) v es n h f.low;
    }
