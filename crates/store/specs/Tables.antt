-- What a store means: tables, each a list of pairs in the order in which their keys first came. Assumes nothing.
use Rattle.std.specs.Prelude.{ℕ, ◌+◌, Bool, true, false, cond, List, [], ◌∷◌, length, is_some, Some, None, Option, nat_lt, slice_index_or, slice_set}
use Rattle.store.specs.Val.{Val, equal_val}

abbrev pub Table : Type 0
Table = List (Val × Val)

abbrev pub Tables : Type 0
Tables = List (List (Val × Val))

-- the value under a key
unfoldable pub look : Val → Table → Option Val
look k [] = None
look k (p ∷ ps) = cond (equal_val p.0 k) (Some p.1) (look k ps)

-- a present key keeps its place, a new one goes to the end
unfoldable pub put : Val → Val → Table → Table
put k v [] = (k, v) ∷ []
put k v (p ∷ ps) = cond (equal_val p.0 k) ((p.0, v) ∷ ps) (p ∷ put k v ps)

-- how many pairs all tables have
unfoldable pub pairs : Tables → ℕ
pairs [] = 0
pairs (t ∷ ts) = length t + pairs ts

-- was this table made?
abbrev pub made : Tables → ℕ → Bool
made T l = nat_lt l (length T)

-- a location never made has no key
abbrev pub read : Tables → ℕ → Val → Option Val
read T l k = look k (slice_index_or T l [])

-- the table is there, and the key is, or one more pair finds room among m
abbrev pub takes : ℕ → Tables → ℕ → Val → Bool
takes m T l k = cond (made T l) (cond (is_some (read T l k)) true (nat_lt (pairs T) m)) false

abbrev pub write : Tables → ℕ → Val → Val → Tables
write T l k v = slice_set T l (put k v (slice_index_or T l []))
