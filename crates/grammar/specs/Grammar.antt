-- The grammar, by writing trees out: the tokens of each tree, and which trees are formed as the grammar wants. Assumes nothing.
use Rattle.std.specs.Prelude.{◌≡◌, ℕ, ◌≤◌, List, [], ◌∷◌}
use Rattle.lexer.specs.Token.{Terminal, identifier, integer, field, string, keyword, symbol}
use Rattle.lexer.specs.declared.token.Keyword.TheVariants as word
use Rattle.lexer.specs.declared.token.Symbol.TheVariants as sign
use Rattle.grammar.specs.Tree.{Expr, Args, Method, Class, Text}

abbrev mutual
  -- the tokens of an expression, with r behind them
  pub toks : {A : Type 0} → Expr A → List Terminal → List Terminal
  toks (Expr.int a w) r = integer w ∷ r
  toks (Expr.nil a) r = keyword word.Nil ∷ r
  toks (Expr.self a) r = keyword word.SelfWord ∷ r
  toks (Expr.string a w) r = string w ∷ r
  toks (Expr.local a x) r = identifier x ∷ r
  toks (Expr.set_local a x e) r = identifier x ∷ symbol sign.Equals ∷ toks e r
  toks (Expr.field a x) r = field x ∷ r
  toks (Expr.set_field a x e) r = field x ∷ symbol sign.Equals ∷ toks e r
  toks (Expr.if_then_else a c d e) r =
      keyword word.If ∷ toks c (keyword word.Then ∷ toks d (keyword word.Else ∷ toks e (keyword word.End ∷ r)))
  toks (Expr.while_do a c d) r = keyword word.While ∷ toks c (keyword word.Do ∷ toks d (keyword word.End ∷ r))
  toks (Expr.seq a c d) r = toks c (symbol sign.Semicolon ∷ toks d r)
  toks (Expr.new a c xs) r = keyword word.New ∷ identifier c ∷ symbol sign.OpenParen ∷ arg_toks xs (symbol sign.CloseParen ∷ r)
  toks (Expr.instance_of a e c) r = toks e (keyword word.InstanceOf ∷ identifier c ∷ r)
  toks (Expr.invoke a e m xs) r =
      toks e (symbol sign.Dot ∷ identifier m ∷ symbol sign.OpenParen ∷ arg_toks xs (symbol sign.CloseParen ∷ r))

  -- the tokens of arguments, parted by commas
  pub arg_toks : {A : Type 0} → Args A → List Terminal → List Terminal
  arg_toks Args.none r = r
  arg_toks (Args.more xs e) r = lead_toks xs (toks e r)

  -- the tokens of arguments, each with a comma behind it
  pub lead_toks : {A : Type 0} → Args A → List Terminal → List Terminal
  lead_toks Args.none r = r
  lead_toks (Args.more xs e) r = lead_toks xs (toks e (symbol sign.Comma ∷ r))

-- the tokens of names, parted by commas
abbrev pub name_toks : List (List ℕ) → List Terminal → List Terminal
name_toks [] r = r
name_toks (x ∷ []) r = identifier x ∷ r
name_toks (x ∷ y ∷ ys) r = identifier x ∷ symbol sign.Comma ∷ name_toks (y ∷ ys) r

-- the tokens of a method
abbrev pub method_toks : {A : Type 0} → Method A → List Terminal → List Terminal
method_toks m r =
    keyword word.Def ∷ identifier m.name ∷ symbol sign.OpenParen ∷ name_toks m.parameters (symbol sign.CloseParen ∷ toks m.body (keyword word.End ∷ r))

-- the tokens of methods, one behind another
abbrev pub methods_toks : {A : Type 0} → List (Method A) → List Terminal → List Terminal
methods_toks [] r = r
methods_toks (m ∷ ms) r = method_toks m (methods_toks ms r)

-- the tokens of a class
abbrev pub class_toks : {A : Type 0} → Class A → List Terminal → List Terminal
class_toks c r =
    keyword word.Class ∷ identifier c.name ∷ symbol sign.Less ∷ identifier c.parent ∷ keyword word.Begin ∷ methods_toks c.methods (keyword word.End ∷ r)

-- the tokens of a text
abbrev pub tokens_of : {A : Type 0} → Text A → List Terminal
tokens_of (Text.rule e) = toks e []
tokens_of (Text.class c) = class_toks c []

-- the levels of expressions: what is of a level may stand where a higher one is wanted
abbrev pub base : ℕ
base = 0

abbrev pub operand : ℕ
operand = 1

abbrev pub test : ℕ
test = 2

abbrev pub item : ℕ
item = 3

abbrev pub sequence : ℕ
sequence = 4

-- the level of an expression, by its outermost form
abbrev pub level : {A : Type 0} → Expr A → ℕ
level (Expr.int a w) = base
level (Expr.nil a) = base
level (Expr.self a) = base
level (Expr.string a w) = base
level (Expr.local a x) = base
level (Expr.set_local a x e) = item
level (Expr.field a x) = base
level (Expr.set_field a x e) = item
level (Expr.if_then_else a c d e) = base
level (Expr.while_do a c d) = base
level (Expr.seq a c d) = sequence
level (Expr.new a c xs) = base
level (Expr.instance_of a e c) = test
level (Expr.invoke a e m xs) = operand

abbrev mutual
  -- each part of the expression is of the level that its place wants
  pub Formed : {A : Type 0} → Expr A → Type 0
  Formed (Expr.int a w) = Unit {0}
  Formed (Expr.nil a) = Unit {0}
  Formed (Expr.self a) = Unit {0}
  Formed (Expr.string a w) = Unit {0}
  Formed (Expr.local a x) = Unit {0}
  Formed (Expr.set_local a x e) = (level e ≤ item) × Formed e
  Formed (Expr.field a x) = Unit {0}
  Formed (Expr.set_field a x e) = (level e ≤ item) × Formed e
  Formed (Expr.if_then_else a c d e) = Formed c × Formed d × Formed e
  Formed (Expr.while_do a c d) = Formed c × Formed d
  Formed (Expr.seq a c d) = (level c ≤ item) × Formed c × Formed d
  Formed (Expr.new a c xs) = FormedArgs xs
  Formed (Expr.instance_of a e c) = (level e ≤ test) × Formed e
  Formed (Expr.invoke a e m xs) = (level e ≤ operand) × Formed e × FormedArgs xs

  -- each argument is a formed sequence
  pub FormedArgs : {A : Type 0} → Args A → Type 0
  FormedArgs Args.none = Unit {0}
  FormedArgs (Args.more xs e) = FormedArgs xs × Formed e

-- each method's body is a formed sequence
abbrev pub FormedMethods : {A : Type 0} → List (Method A) → Type 0
FormedMethods [] = Unit {0}
FormedMethods (m ∷ ms) = Formed m.body × FormedMethods ms

-- what a text is read as
pub data Kind : Type 0 where
  rule : Kind
  class : Kind

-- the text is a formed tree of that kind
abbrev pub FormedText : {A : Type 0} → Kind → Text A → Type 0
FormedText κ (Text.rule e) = (κ ≡ Kind.rule) × Formed e
FormedText κ (Text.class c) = (κ ≡ Kind.class) × FormedMethods c.methods
