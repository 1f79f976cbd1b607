-- What chained entries mean: pairs in the order in which their keys came, each in the bucket that its key gives. Assumes nothing.
use Rattle.std.specs.Prelude.{◌≡◌, ℕ, ◌≤◌, List, map, take}
use Rattle.std.specs.List.{AllByRecursion}
use Rattle.text.specs.Memory.{Memory}
use Rattle.store.specs.Val.{Val, meaning, end_of}
use Rattle.store.specs.Tables.{Tables}
use Rattle.store.specs.Filed.{place_of, Files}
use Rattle.buckets.specs.declared.Chained.{Chained}
use Rattle.buckets.specs.Numbers.{bucket_of}

abbrev pub pair_of : Memory → Chained → (ℕ × Val) × Val
pair_of m e = (place_of m e.key, meaning m e.value)

-- each entry's number is the one that its table and its key's meaning give: the only part that looks at bytes
abbrev pub InPlace : ℕ → Memory → List Chained → Type 0
InPlace buckets m es = AllByRecursion (λ (e : Chained). e.bucket ≡ bucket_of buckets (place_of m e.key)) es

-- lent the memory m, the first len entries are the tables T, of which there are n
pub record Holds (es : List Chained) (buckets len n : ℕ) (m : Memory) (T : Tables) : Type 0 where
  pub files : Files (map (pair_of m) (take len es)) n T
  pub placed : InPlace buckets m (take len es)

-- the keys and values of the first len entries end by u among the strings made
abbrev pub Inside : List Chained → ℕ → ℕ → Type 0
Inside es len u = AllByRecursion (λ (e : Chained). (end_of e.key.value ≤ u) × (end_of e.value ≤ u)) (take len es)
