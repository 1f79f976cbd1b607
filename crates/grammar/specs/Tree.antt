-- Trees of expressions, methods and classes. Each node carries a note of type A (its place in the text, or nothing). Assumes nothing.
use Rattle.std.specs.Prelude.{ℕ, List}

mutual
  pub data Expr (A : Type 0) : Type 0 where
    -- an integer by its digits, with the `-` if there is one
    int : A → List ℕ → Expr A
    nil : A → Expr A
    self : A → Expr A
    string : A → List ℕ → Expr A
    local : A → List ℕ → Expr A
    set_local : A → List ℕ → Expr A → Expr A
    -- a field's name has its `@`
    field : A → List ℕ → Expr A
    set_field : A → List ℕ → Expr A → Expr A
    if_then_else : A → Expr A → Expr A → Expr A → Expr A
    while_do : A → Expr A → Expr A → Expr A
    seq : A → Expr A → Expr A → Expr A
    new : A → List ℕ → Args A → Expr A
    instance_of : A → Expr A → List ℕ → Expr A
    invoke : A → Expr A → List ℕ → Args A → Expr A

  -- arguments, the last one outermost
  pub data Args (A : Type 0) : Type 0 where
    none : Args A
    more : Args A → Expr A → Args A

pub record Method (A : Type 0) : Type 0 where
  pub name : List ℕ
  pub parameters : List (List ℕ)
  pub body : Expr A

pub record Class (A : Type 0) : Type 0 where
  pub name : List ℕ
  pub parent : List ℕ
  pub methods : List (Method A)

-- a text is a rule, which is one expression, or a class
pub data Text (A : Type 0) : Type 0 where
  rule : Expr A → Text A
  class : Class A → Text A

-- trees without notes
abbrev pub Bare : Type 0
Bare = Expr (Unit {0})

abbrev pub BareArgs : Type 0
BareArgs = Args (Unit {0})

abbrev pub BareMethod : Type 0
BareMethod = Method (Unit {0})

abbrev pub BareClass : Type 0
BareClass = Class (Unit {0})

abbrev pub BareText : Type 0
BareText = Text (Unit {0})
