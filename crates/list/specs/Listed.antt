-- A store as one list of pairs, searched from its start. Assumes nothing.
use Rattle.std.specs.Prelude.{ℕ, ◌≤◌, List, map}
use Rattle.std.specs.List.{AllByRecursion}
use Rattle.text.specs.Memory.{Memory}
use Rattle.store.specs.Val.{Val, meaning, end_of}
use Rattle.store.specs.Tables.{Tables}
use Rattle.store.specs.Filed.{place_of, Files}
use Rattle.list.specs.declared.Pair.{Pair}

-- what a pair means: its place and its value
abbrev pub filed : Memory → Pair → (ℕ × Val) × Val
filed m p = (place_of m p.key, meaning m p.value)

-- lent the memory m, the pairs are the tables T, of which there are n
abbrev pub Holds : List Pair → ℕ → Memory → Tables → Type 0
Holds ps n m T = Files (map (filed m) ps) n T

-- the keys and values end by u among the strings made
abbrev pub Inside : List Pair → ℕ → Type 0
Inside ps u = AllByRecursion (λ (p : Pair). (end_of p.key.value ≤ u) × (end_of p.value ≤ u)) ps
