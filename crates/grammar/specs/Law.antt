-- The grammar's law, in its own words: what is promised of the machine's answers. Assumes nothing.
use Rattle.std.specs.Prelude.{◌≡◌, ◌⊎◌, List, [], ◌∷◌, ◌++◌, ◌≢◌}
use Rattle.lexer.specs.Token.{Terminal}
use Rattle.grammar.specs.Tree.{BareText}
use Rattle.grammar.specs.Grammar.{Kind, tokens_of, FormedText}
use Rattle.grammar.specs.Machine.{Outcome, parse}

-- some tree's tokens begin with these
abbrev pub Begins : Kind → List Terminal → Type 0
Begins κ pre = (t : BareText) × (tail : List Terminal) × FormedText κ t × (tokens_of t ≡ pre ++ tail)

-- no tree's tokens go on from `pre` with the first token of `rest`; at the end of the text: `pre` is no tree's
abbrev pub Stuck : Kind → List Terminal → List Terminal → Type 0
Stuck κ pre [] = (t : BareText) → FormedText κ t → tokens_of t ≢ pre
Stuck κ pre (x ∷ rest) = (t : BareText) (tail : List Terminal) → FormedText κ t → tokens_of t ≢ pre ++ (x ∷ tail)

-- `rest` begins with the first token that no tree has there
pub record Refuses (κ : Kind) (ts rest : List Terminal) : Type 0 where
  pub pre : List Terminal
  pub split : ts ≡ pre ++ rest
  pub viable : Begins κ pre
  pub stuck : Stuck κ pre rest

-- the tokens are those of a formed tree
abbrev pub HasTree : Kind → List Terminal → Type 0
HasTree κ ts = (t : BareText) × FormedText κ t × (tokens_of t ≡ ts)

-- the tokens have one tree or are refused at one place, never both, and the machine says which
pub record Law (κ : Kind) : Type 0 where
  pub sound : (ts : List Terminal) (t : BareText) → parse κ ts ≡ Outcome.accepted t → FormedText κ t × (tokens_of t ≡ ts)
  pub complete : (t : BareText) → FormedText κ t → parse κ (tokens_of t) ≡ Outcome.accepted t
  pub refuses : (ts rest : List Terminal) → parse κ ts ≡ Outcome.refused rest → Refuses κ ts rest
  pub decided : (ts : List Terminal) → HasTree κ ts ⊎ ((rest : List Terminal) × Refuses κ ts rest)
  pub never_both : (ts rest : List Terminal) → Refuses κ ts rest → HasTree κ ts → ⊥
  pub one-tree : (a b : BareText) → FormedText κ a → FormedText κ b → tokens_of a ≡ tokens_of b → a ≡ b
  pub one_place : (ts a b : List Terminal) → Refuses κ ts a → Refuses κ ts b → a ≡ b
