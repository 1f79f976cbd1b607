-- Tables as one list of all their pairs, in the order in which the keys first came. Assumes nothing.
use Rattle.std.specs.Prelude.{◌≡◌, ℕ, ◌<◌, Bool, cond, ◌&&◌, List, [], ◌∷◌, map, ◌==◌}
use Rattle.std.specs.List.{range_with_len, AllByRecursion}
use Rattle.text.specs.Memory.{Memory}
use Rattle.store.specs.declared.key.Key.{Key}
use Rattle.store.specs.Val.{Val, meaning, equal_val}
use Rattle.store.specs.Tables.{Tables}

-- where a pair is filed: its table's number and its key
abbrev pub Place : Type 0
Place = ℕ × Val

abbrev pub place_of : Memory → Key → ℕ × Val
place_of m k = (k.location.0, meaning m k.value)

unfoldable pub same_place : ℕ × Val → ℕ × Val → Bool
same_place p q = p.0 == q.0 && equal_val p.1 q.1

-- a pair with its place
abbrev pub Filed : Type 0
Filed = (ℕ × Val) × Val

abbrev pub fits : ℕ × Val → (ℕ × Val) × Val → Bool
fits p e = same_place e.0 p

-- the table j of all pairs
unfoldable pub row_of : List ((ℕ × Val) × Val) → ℕ → List (Val × Val)
row_of [] j = []
row_of (e ∷ es) j = cond (e.0.0 == j) ((e.0.1, e.1) ∷ row_of es j) (row_of es j)

-- the first n tables
unfoldable pub tables_of : List ((ℕ × Val) × Val) → ℕ → Tables
tables_of es n = map (row_of es) (range_with_len 0 n)

-- the pairs es are the n tables T, and no pair is of another table
pub record Files (es : List ((ℕ × Val) × Val)) (n : ℕ) (T : Tables) : Type 0 where
  pub tables : T ≡ tables_of es n
  pub low : AllByRecursion (λ (e : (ℕ × Val) × Val). e.0.0 < n) es
