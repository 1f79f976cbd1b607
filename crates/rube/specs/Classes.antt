-- Classes and the methods that they find. Assumes nothing.
use Rattle.std.specs.Prelude.{ℕ, suc, ◌+◌, Bool, false, cond, ◌||◌, List, [], ◌∷◌, ◌++◌, map, reverse, length, Some, None, Option}
use Rattle.std.specs.Str.{bytes_eq}
use Rattle.grammar.specs.Tree.{Method, Class}
use Rattle.rube.specs.declared.builtin.Operation.{Operation}
use Rattle.rube.specs.declared.builtin.Builtin.{Builtin}
use Rattle.rube.specs.Builtin as builtin
use Rattle.rube.specs.Builtin.{class_name, builtin_classes}

-- what is entered when a method is: one of ours, or the method that a class defines, with its number among all that were added
pub data Callee (A : Type 0) : Type 0 where
  built_in : (parameters : ℕ) → Operation → Callee A
  written : (number : ℕ) → Method A → Callee A

-- a method under its name
pub record Named (A : Type 0) : Type 0 where
  pub name : List ℕ
  pub callee : Callee A

-- the accepted classes, the newest first: a parent stands behind its children
abbrev pub Classes : Type 0 → Type 0
Classes A = List (Class A)

abbrev pub among : List (List ℕ) → List ℕ → Bool
among [] C = false
among (D ∷ Ds) C = bytes_eq D C || among Ds C

module _ {A : Type 0} where
  abbrev pub parameter_count : Callee A → ℕ
  parameter_count (Callee.built_in n o) = n
  parameter_count (Callee.written i m) = length m.parameters

  -- the rows of a built-in class
  abbrev pub rows_of : List ℕ → List Builtin → List (List ℕ) → List (Named A)
  rows_of C [] ns = []
  rows_of C (b ∷ bs) [] = []
  rows_of C (b ∷ bs) (n ∷ ns) =
      cond (bytes_eq (class_name b.class) C)
      (record { name = n; callee = Callee.built_in b.parameters b.operation } ∷ rows_of C bs ns)
      (rows_of C bs ns)

  -- the methods of a class, numbered from i on
  abbrev pub own : ℕ → List (Method A) → List (Named A)
  own i [] = []
  own i (m ∷ ms) = record { name = m.name; callee = Callee.written i m } ∷ own (suc i) ms

  -- how many methods were added, and all of them, the oldest first
  abbrev pub added_methods : Classes A → ℕ
  added_methods [] = 0
  added_methods (K ∷ older) = added_methods older + length K.methods

  abbrev pub all_methods : Classes A → List (Method A)
  all_methods [] = []
  all_methods (K ∷ older) = all_methods older ++ K.methods

  abbrev pub find : List ℕ → List (Named A) → Option (Callee A)
  find x [] = None
  find x (m ∷ ms) = cond (bytes_eq m.name x) (Some m.callee) (find x ms)

  abbrev pub names : List (Named A) → List ℕ → Bool
  names [] x = false
  names (m ∷ ms) x = bytes_eq m.name x || names ms x

  -- the methods that are not overridden
  abbrev pub inherited : List (Named A) → List (Named A) → List (Named A)
  inherited mine [] = []
  inherited mine (m ∷ ms) = cond (names mine m.name) (inherited mine ms) (m ∷ inherited mine ms)

  -- the methods that a class finds: its own, then those of its parent that it does not override
  unfoldable pub visible : Classes A → List ℕ → List (Named A)
  visible [] C = rows_of C builtin.table builtin.names
  visible (K ∷ older) C =
      cond (bytes_eq K.name C)
      (own (added_methods older) K.methods ++ inherited (own (added_methods older) K.methods) (visible older K.parent))
      (visible older C)

  abbrev pub lookup : Classes A → List ℕ → List ℕ → Option (Callee A)
  lookup P C x = find x (visible P C)

  -- all classes, built-in ones first, then by acceptance
  abbrev pub class_names : Classes A → List (List ℕ)
  class_names P = map class_name builtin_classes ++ reverse (map (λ K. K.name) P)

  abbrev pub known : Classes A → List ℕ → Bool
  known P C = among (class_names P) C

  -- c, the number of classes
  abbrev pub class_count : Classes A → ℕ
  class_count P = length (class_names P)

  abbrev pub visible_in : Classes A → List (List ℕ) → ℕ
  visible_in P [] = 0
  visible_in P (C ∷ Cs) = length (visible P C) + visible_in P Cs

  -- p, the number of pairs of a class and a method that it finds
  abbrev pub pair_count : Classes A → ℕ
  pair_count P = visible_in P (class_names P)
