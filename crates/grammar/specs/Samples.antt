-- Worked examples of the grammar and the measures. Assumes nothing.
use Rattle.std.specs.Prelude.{◌≡◌, [], ◌∷◌, length, pos, codes}
use Rattle.lexer.specs.Token.{Terminal, identifier, integer, keyword, symbol}
use Rattle.lexer.specs.declared.token.Keyword.TheVariants as word
use Rattle.lexer.specs.declared.token.Symbol.TheVariants as sign
use Rattle.grammar.specs.Tree.{Expr, Args, Text, Bare}
use Rattle.grammar.specs.Grammar.{Kind}
use Rattle.grammar.specs.Machine.{Outcome, parse}
use Rattle.grammar.specs.Limits.{smallest_integer, largest_integer}
use Rattle.grammar.specs.Measure.{value_of, nodes, depth, names_of}

abbrev one : Terminal
one = integer (codes "1")

abbrev a : Terminal
a = identifier (codes "a")

abbrev b : Terminal
b = identifier (codes "b")

abbrev A : Terminal
A = identifier (codes "A")

abbrev local_a : Bare
local_a = Expr.local tt (codes "a")

abbrev local_b : Bare
local_b = Expr.local tt (codes "b")

pub record Samples : Type 0 where
  -- self = 1
  pub self-is-no-target : parse Kind.rule (keyword word.SelfWord ∷ symbol sign.Equals ∷ one ∷ []) ≡ Outcome.refused (symbol sign.Equals ∷ one ∷ [])
  -- a.b
  pub calls-have-parentheses : parse Kind.rule (a ∷ symbol sign.Dot ∷ b ∷ []) ≡ Outcome.refused []
  -- (1)
  pub no-other-parentheses : parse Kind.rule (symbol sign.OpenParen ∷ one ∷ symbol sign.CloseParen ∷ []) ≡ Outcome.refused (symbol sign.OpenParen ∷ one ∷ symbol sign.CloseParen ∷ [])
  -- 1;
  pub no-last-semicolon : parse Kind.rule (one ∷ symbol sign.Semicolon ∷ []) ≡ Outcome.refused []
  -- a.b(1,)
  pub no-last-comma : parse Kind.rule (a ∷ symbol sign.Dot ∷ b ∷ symbol sign.OpenParen ∷ one ∷ symbol sign.Comma ∷ symbol sign.CloseParen ∷ []) ≡ Outcome.refused (symbol sign.CloseParen ∷ [])
  -- 1 instanceof A.b()
  pub no-call-behind-a-test : parse Kind.rule (one ∷ keyword word.InstanceOf ∷ A ∷ symbol sign.Dot ∷ b ∷ symbol sign.OpenParen ∷ symbol sign.CloseParen ∷ []) ≡ Outcome.refused (symbol sign.Dot ∷ b ∷ symbol sign.OpenParen ∷ symbol sign.CloseParen ∷ [])
  -- a = b instanceof A
  pub writes-stand-outside-tests : parse Kind.rule (a ∷ symbol sign.Equals ∷ b ∷ keyword word.InstanceOf ∷ A ∷ []) ≡ Outcome.accepted (Text.rule (Expr.set_local tt (codes "a") (Expr.instance_of tt local_b (codes "A"))))
  -- a; b; a
  pub sequences-group-to-the-right : parse Kind.rule (a ∷ symbol sign.Semicolon ∷ b ∷ symbol sign.Semicolon ∷ a ∷ []) ≡ Outcome.accepted (Text.rule (Expr.seq tt local_a (Expr.seq tt local_b local_a)))
  -- new A().b()
  pub new-is-a-base : parse Kind.rule (keyword word.New ∷ A ∷ symbol sign.OpenParen ∷ symbol sign.CloseParen ∷ symbol sign.Dot ∷ b ∷ symbol sign.OpenParen ∷ symbol sign.CloseParen ∷ []) ≡ Outcome.accepted (Text.rule (Expr.invoke tt (Expr.new tt (codes "A") Args.none) (codes "b") Args.none))
  -- class A < A begin end; as a class, and as a rule
  pub classes-end-with-end : parse Kind.class (keyword word.Class ∷ A ∷ symbol sign.Less ∷ A ∷ keyword word.Begin ∷ keyword word.End ∷ symbol sign.Semicolon ∷ []) ≡ Outcome.refused (symbol sign.Semicolon ∷ [])
  pub classes-are-no-rules : parse Kind.rule (keyword word.Class ∷ A ∷ []) ≡ Outcome.refused (keyword word.Class ∷ A ∷ [])
  -- class A < A begin def b(a, b) end end
  pub bodies-are-not-empty : parse Kind.class (keyword word.Class ∷ A ∷ symbol sign.Less ∷ A ∷ keyword word.Begin ∷ keyword word.Def ∷ b ∷ symbol sign.OpenParen ∷ a ∷ symbol sign.Comma ∷ b ∷ symbol sign.CloseParen ∷ keyword word.End ∷ keyword word.End ∷ []) ≡ Outcome.refused (keyword word.End ∷ keyword word.End ∷ [])
  -- depths and nodes
  pub depth-of-new : depth {A = Unit {0}} (Expr.new tt (codes "A") Args.none) ≡ 1
  pub depth-of-a-call : depth (Expr.invoke tt local_a (codes "b") Args.none) ≡ 2
  pub depth-of-a-sequence : depth (Expr.seq tt local_a (Expr.seq tt local_b local_a)) ≡ 1
  pub nodes-of-a-sequence : nodes (Expr.seq tt local_a (Expr.seq tt local_b local_a)) ≡ 5
  -- integers are judged by their value
  pub zeros-lead : value_of (codes "00012") ≡ pos 12
  pub minus-zero : value_of (codes "-0") ≡ pos 0
  pub largest : value_of (codes "2147483647") ≡ largest_integer
  pub smallest : value_of (codes "-2147483648") ≡ smallest_integer
  -- def f(a, a, a, a) a; b
  pub equal-names-count-once : length (names_of (codes "a" ∷ codes "a" ∷ codes "a" ∷ codes "a" ∷ []) (Expr.seq tt local_a local_b)) ≡ 2
