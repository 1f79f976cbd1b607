-- Which lists of classes come to be by accepting them one after the other. Assumes nothing.
use Rattle.std.specs.Prelude.{◌≡◌, ℕ, ◌≤◌, true, false, List, [], ◌∷◌, map, length, codes}
use Rattle.grammar.specs.Tree.{Class}
use Rattle.rube.specs.Classes.{Classes, among, known, added_methods}

abbrev pub most_classes : ℕ
most_classes = 16

abbrev pub most_methods : ℕ
most_methods = 64

-- no name stands twice
abbrev pub Distinct : List (List ℕ) → Type 0
Distinct [] = Unit {0}
Distinct (x ∷ xs) = (among xs x ≡ false) × Distinct xs

module _ {A : Type 0} where
  -- the names of the added classes, the newest first
  abbrev pub added : Classes A → List (List ℕ)
  added P = map (λ K. K.name) P

  abbrev pub method_names : Class A → List (List ℕ)
  method_names K = map (λ m. m.name) K.methods

  -- a class that may be added to those before it
  pub record Acceptable (older : Classes A) (K : Class A) : Type 0 where
    -- its name is neither built in nor that of an older class
    pub new-name : known older K.name ≡ false
    -- its parent is Object or an older class
    pub parent-there : among (codes "Object" ∷ added older) K.parent ≡ true
    -- it defines no method twice
    pub methods-once : Distinct (method_names K)

  -- each class was acceptable when it was added
  abbrev pub Accepted : Classes A → Type 0
  Accepted [] = Unit {0}
  Accepted (K ∷ older) = Acceptable older K × Accepted older

  -- as many classes and methods as may be added
  pub record Few (P : Classes A) : Type 0 where
    pub few-classes : length P ≤ most_classes
    pub few-methods : added_methods P ≤ most_methods
