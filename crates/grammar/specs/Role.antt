-- What each token does in a text: the tokens again, in five groups. Assumes nothing.
use Rattle.std.specs.Prelude.{ℕ, cond, List, ◌==◌}
use Rattle.lexer.specs.Token.{Terminal}
use Rattle.lexer.specs.declared.token.Keyword.TheVariants as word
use Rattle.lexer.specs.declared.token.Symbol.TheVariants as sign
use Rattle.grammar.specs.Tree.{Expr, Bare}

-- an expression of one token
pub data Leaf : Type 0 where
  int : List ℕ → Leaf
  string : List ℕ → Leaf
  field : List ℕ → Leaf
  nil : Leaf
  self : Leaf

-- what begins an expression of several tokens
pub data Opening : Type 0 where
  if : Opening
  while : Opening
  new : Opening

-- what goes on with an expression
pub data Joint : Type 0 where
  semicolon : Joint
  equals : Joint
  dot : Joint
  instance_of : Joint

-- what parts a construct from the next part of it
pub data Stop : Type 0 where
  then : Stop
  else : Stop
  end : Stop
  do' : Stop
  close : Stop
  comma : Stop
  open' : Stop
  less : Stop
  class : Stop
  begin : Stop
  def : Stop

-- the five groups
pub data Role : Type 0 where
  -- a name, or a local by itself
  name : List ℕ → Role
  leaf : Leaf → Role
  opening : Opening → Role
  joint : Joint → Role
  stop : Stop → Role

-- each token's role
abbrev pub role : Terminal → Role
role (Terminal.identifier x) = Role.name x
role (Terminal.integer w) = Role.leaf (Leaf.int w)
role (Terminal.field x) = Role.leaf (Leaf.field x)
role (Terminal.string w) = Role.leaf (Leaf.string w)
role (Terminal.keyword word.Class) = Role.stop Stop.class
role (Terminal.keyword word.Begin) = Role.stop Stop.begin
role (Terminal.keyword word.End) = Role.stop Stop.end
role (Terminal.keyword word.Def) = Role.stop Stop.def
role (Terminal.keyword word.If) = Role.opening Opening.if
role (Terminal.keyword word.Then) = Role.stop Stop.then
role (Terminal.keyword word.Else) = Role.stop Stop.else
role (Terminal.keyword word.While) = Role.opening Opening.while
role (Terminal.keyword word.Do) = Role.stop Stop.do'
role (Terminal.keyword word.New) = Role.opening Opening.new
role (Terminal.keyword word.InstanceOf) = Role.joint Joint.instance_of
role (Terminal.keyword word.SelfWord) = Role.leaf Leaf.self
role (Terminal.keyword word.Nil) = Role.leaf Leaf.nil
role (Terminal.symbol sign.Dot) = Role.joint Joint.dot
role (Terminal.symbol sign.Comma) = Role.stop Stop.comma
role (Terminal.symbol sign.Semicolon) = Role.joint Joint.semicolon
role (Terminal.symbol sign.OpenParen) = Role.stop Stop.open'
role (Terminal.symbol sign.CloseParen) = Role.stop Stop.close
role (Terminal.symbol sign.Equals) = Role.joint Joint.equals
role (Terminal.symbol sign.Less) = Role.stop Stop.less

-- the expression that a leaf is
abbrev pub leaf_tree : Leaf → Bare
leaf_tree (Leaf.int w) = Expr.int tt w
leaf_tree (Leaf.string w) = Expr.string tt w
leaf_tree (Leaf.field x) = Expr.field tt x
leaf_tree Leaf.nil = Expr.nil tt
leaf_tree Leaf.self = Expr.self tt

-- a number for each, to compare them by
abbrev pub code : Stop → ℕ
code Stop.then = 0
code Stop.else = 1
code Stop.end = 2
code Stop.do' = 3
code Stop.close = 4
code Stop.comma = 5
code Stop.open' = 6
code Stop.less = 7
code Stop.class = 8
code Stop.begin = 9
code Stop.def = 10

-- x, if the token is the one wanted, and y otherwise
abbrev pub on {ℓ} : {A : Type ℓ} → Stop → Stop → A → A → A
on wanted s x y = cond (code wanted == code s) x y
