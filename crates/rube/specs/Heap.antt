-- Objects and the space that they take. Assumes nothing.
use Rattle.std.specs.Prelude.{ℕ, suc, ◌+◌, Bool, cond, ◌&&◌, List, [], ◌∷◌, length, pos, is_some, codes, nat_le, slice_index_or, slice_set}
use Rattle.store.specs.Val.{Val, equal_val}
use Rattle.store.specs.Tables.{Table, look, put}
use Rattle.machine.specs.Limits.{Limits}
use Rattle.rube.specs.Classes.{Classes, class_count, pair_count}

-- an object with its class and its fields, or the contents of the Map before it
pub data Cell : Type 0 where
  object : (class : List ℕ) (fields : Table) → Cell
  contents : Table → Cell

-- a location is a place in it
abbrev pub Heap : Type 0
Heap = List Cell

abbrev pub nil : Val
nil = Val.location 0

abbrev pub top_self : Val
top_self = Val.location 1

-- nil and the top-level self are one object each
abbrev pub first_heap : Heap
first_heap = Cell.object (codes "Bot") [] ∷ Cell.object (codes "Object") [] ∷ []

abbrev pub is_nil : Val → Bool
is_nil v = equal_val v nil

-- 1 for yes, nil for no
abbrev pub truth : Bool → Val
truth b = cond b (Val.int (pos 1)) nil

-- what no object is has no class
abbrev pub cell_class : Cell → List ℕ
cell_class (Cell.object C fs) = C
cell_class (Cell.contents t) = []

abbrev pub cell_table : Cell → Table
cell_table (Cell.object C fs) = fs
cell_table (Cell.contents t) = t

abbrev pub with_table : Table → Cell → Cell
with_table t (Cell.object C fs) = Cell.object C t
with_table t (Cell.contents u) = Cell.contents t

abbrev pub no_cell : Cell
no_cell = Cell.contents []

abbrev pub class_of : Heap → Val → List ℕ
class_of H (Val.int n) = codes "Integer"
class_of H (Val.string s) = codes "String"
class_of H (Val.identifier g) = []
class_of H (Val.location l) = cell_class (slice_index_or H l no_cell)

-- the fields of an object
abbrev pub fields_of : Heap → ℕ → Table
fields_of H l = cell_table (slice_index_or H l no_cell)

-- one pair for the class of an object, and one for each field or key
abbrev pub cell_pairs : Cell → ℕ
cell_pairs (Cell.object C fs) = suc (length fs)
cell_pairs (Cell.contents t) = length t

unfoldable pub heap_pairs : Heap → ℕ
heap_pairs [] = 0
heap_pairs (x ∷ H) = cell_pairs x + heap_pairs H

-- a run's classes and the space of its store
pub record Setting (A : Type 0) : Type 0 where
  pub classes : Classes A
  pub limits : Limits

module _ {A : Type 0} where
  -- does the store hold this heap beside the class tables, with so many tables and pairs more?
  unfoldable pub fits : Setting A → Heap → ℕ → ℕ → Bool
  fits P H tables pairs =
      nat_le (class_count P.classes + length H + tables) P.limits.tables
      && nat_le (class_count P.classes + pair_count P.classes + heap_pairs H + pairs) P.limits.pairs

-- a write of a key that is there takes no pair
abbrev pub new_pairs : Val → Table → ℕ
new_pairs k t = cond (is_some (look k t)) 0 1

abbrev pub put_at : Heap → ℕ → Val → Val → Heap
put_at H l k v = slice_set H l (with_table (put k v (fields_of H l)) (slice_index_or H l no_cell))
