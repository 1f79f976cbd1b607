-- Which refusal a text meets. Assumes nothing.
use Rattle.std.specs.Prelude.{◌≡◌, ℕ, ◌≤◌, List, ◌++◌, map, length}
use Rattle.lexer.specs.Token.{Terminal}
use Rattle.lexer.specs.Tokens.{Placed, Tokens, tokens}
use Rattle.grammar.specs.Grammar.{Kind}
use Rattle.grammar.specs.Law.{Refuses}
use Rattle.grammar.specs.Notes.{first}

-- the bytes that a text may have
abbrev pub text_limit : ℕ
text_limit = 4096

-- tokens and their kinds
abbrev pub kinds : List Placed → List Terminal
kinds ps = map (λ p. p.token) ps

abbrev pub places_of : List Placed → List ℕ
places_of ps = map (λ p. p.place) ps

-- the text has these tokens and is short enough
pub record Lexes (text : List ℕ) (ps : List Placed) : Type 0 where
  pub short : length text ≤ text_limit
  pub all : tokens text ≡ Tokens.all ps

-- the first token that no text of that kind has there stands at the place p; the text's end is its length
pub record Breaks (κ : Kind) (text : List ℕ) (p : ℕ) : Type 0 where
  pub before : List Placed
  pub rest : List Placed
  pub lexes : Lexes text (before ++ rest)
  pub refuses : Refuses κ (kinds (before ++ rest)) (kinds rest)
  pub place : p ≡ first (length text) (places_of rest)
