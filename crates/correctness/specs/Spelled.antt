-- The names of a tree are spelled as the language's tokens. Assumes nothing.
use Rattle.std.specs.List.{AllByRecursion}
use Rattle.lexer.specs.Law.{Free, Field}
use Rattle.grammar.specs.Tree.{Expr, Args, Method, Class, Text}

abbrev mutual
  -- every method that the expression calls has an identifier's name, and every field has a field's
  pub Spelled : {A : Type 0} → Expr A → Type 0
  Spelled (Expr.int a w) = Unit {0}
  Spelled (Expr.nil a) = Unit {0}
  Spelled (Expr.self a) = Unit {0}
  Spelled (Expr.string a w) = Unit {0}
  Spelled (Expr.local a x) = Unit {0}
  Spelled (Expr.set_local a x e) = Spelled e
  Spelled (Expr.field a x) = Field x
  Spelled (Expr.set_field a x e) = Field x × Spelled e
  Spelled (Expr.if_then_else a c d e) = Spelled c × Spelled d × Spelled e
  Spelled (Expr.while_do a c d) = Spelled c × Spelled d
  Spelled (Expr.seq a c d) = Spelled c × Spelled d
  Spelled (Expr.new a C xs) = SpelledArgs xs
  Spelled (Expr.instance_of a e C) = Spelled e
  Spelled (Expr.invoke a e x xs) = Free x × Spelled e × SpelledArgs xs

  pub SpelledArgs : {A : Type 0} → Args A → Type 0
  SpelledArgs Args.none = Unit {0}
  SpelledArgs (Args.more xs e) = SpelledArgs xs × Spelled e

-- a method has an identifier's name too
abbrev pub SpelledMethod : {A : Type 0} → Method A → Type 0
SpelledMethod m = Free m.name × Spelled m.body

abbrev pub SpelledClass : {A : Type 0} → Class A → Type 0
SpelledClass K = AllByRecursion SpelledMethod K.methods

abbrev pub SpelledText : {A : Type 0} → Text A → Type 0
SpelledText (Text.rule e) = Spelled e
SpelledText (Text.class K) = SpelledClass K
