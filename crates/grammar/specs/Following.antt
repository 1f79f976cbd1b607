-- What may stand behind an expression for the machine to take it as it is. Assumes nothing.
use Rattle.std.specs.Prelude.{◌≡◌, ℕ, ◌<◌, List, [], ◌∷◌}
use Rattle.std.proofs.Math.Option.{none}
use Rattle.lexer.specs.Token.{Terminal, identifier, keyword, symbol}
use Rattle.lexer.specs.declared.token.Keyword.TheVariants as word
use Rattle.lexer.specs.declared.token.Symbol.TheVariants as sign
use Rattle.grammar.specs.Tree.{Bare}
use Rattle.grammar.specs.Grammar.{level, operand, test}
use Rattle.grammar.specs.Role.{Role, role}
use Rattle.grammar.specs.Machine.{Bracket, target_of}

-- the tokens begin with t
abbrev pub First : Terminal → List Terminal → Type 0
First t [] = ⊥
First t (u ∷ r) = u ≡ t

-- the tokens do not go on with the item e
pub record Calm (e : Bare) (r : List Terminal) : Type 0 where
  pub equals : First (symbol sign.Equals) r → target_of e ≡ none
  pub dot : First (symbol sign.Dot) r → operand < level e
  pub instance_of : First (keyword word.InstanceOf) r → test < level e

-- no further item follows
abbrev pub Last : List Terminal → Type 0
Last r = First (symbol sign.Semicolon) r → ⊥

-- no item begins with a token of that role
abbrev pub IdleRole : Role → Type 0
IdleRole (Role.name x) = ⊥
IdleRole (Role.leaf l) = ⊥
IdleRole (Role.opening o) = ⊥
IdleRole (Role.joint j) = Unit {0}
IdleRole (Role.stop s) = Unit {0}

-- no item begins with the tokens
abbrev pub NoItem : List Terminal → Type 0
NoItem [] = Unit {0}
NoItem (t ∷ r) = IdleRole (role t)

-- the tokens do not begin with a name
abbrev pub NoName : List Terminal → Type 0
NoName r = (x : List ℕ) → First (identifier x) r → ⊥

-- the tokens do not begin with what ends the bracket
abbrev pub Unended : Bracket → List Terminal → Type 0
Unended Bracket.condition r = First (keyword word.Then) r → ⊥
Unended (Bracket.consequent c) r = First (keyword word.Else) r → ⊥
Unended (Bracket.alternative c d) r = First (keyword word.End) r → ⊥
Unended Bracket.guard r = First (keyword word.Do) r → ⊥
Unended (Bracket.loop c) r = First (keyword word.End) r → ⊥
Unended (Bracket.argument f xs) r = (First (symbol sign.CloseParen) r → ⊥) × (First (symbol sign.Comma) r → ⊥)
