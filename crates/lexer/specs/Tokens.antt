-- All tokens of a text, each with its place. Assumes nothing.
use Rattle.std.specs.Prelude.{ℕ, zero, suc, pred, ◌+◌, cond, List, [], ◌∷◌, length, Some, None, Ok, Err, Option, Result}
use Rattle.lexer.specs.declared.token.Stray.{Stray}
use Rattle.lexer.specs.Byte.{blank}
use Rattle.lexer.specs.Token.{Terminal, spelling}
use Rattle.lexer.specs.Lexing.{first}

pub record Placed : Type 0 where
  pub token : Terminal
  pub place : ℕ

-- the tokens, or the place of the first byte that no token has
pub data Tokens : Type 0 where
  all : List Placed → Tokens
  stray : ℕ → Tokens

abbrev pub before : Placed → Tokens → Tokens
before p (Tokens.all ps) = Tokens.all (p ∷ ps)
before p (Tokens.stray q) = Tokens.stray q

-- a token takes its bytes; `behind n` goes on when n of the bytes behind its first have passed
abbrev pub took : ℕ → (ℕ → Tokens) → Option Terminal → Tokens
took at behind None = Tokens.stray at
took at behind (Some t) = before (record { token = t; place = at }) (behind (pred (length (spelling t))))

-- byte by byte from the place `at`; the first `inside` bytes belong to the token that began before
unfoldable pub scan : ℕ → ℕ → List ℕ → Tokens
scan at inside [] = Tokens.all []
scan at zero (b ∷ bs) = cond (blank b) (scan (at + 1) 0 bs) (took at (λ n. scan (at + 1) n bs) (first (b ∷ bs)))
scan at (suc n) (b ∷ bs) = scan (at + 1) n bs

abbrev pub tokens : List ℕ → Tokens
tokens text = scan 0 0 text

-- what the code's answer says of a whole text
abbrev pub judged : Tokens → Option ℕ
judged (Tokens.all ps) = None
judged (Tokens.stray p) = Some p

abbrev pub refused : Result (Unit {0}) Stray → Option ℕ
refused (Ok u) = None
refused (Err s) = Some s.0
