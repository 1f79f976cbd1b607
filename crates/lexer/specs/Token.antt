-- Tokens as the grammar sees them, and how each is written. Assumes nothing.
use Rattle.std.specs.Prelude.{ℕ, List, [], ◌∷◌, ◌++◌, codes}
use Rattle.lexer.specs.declared.token.Keyword.{Keyword}
use Rattle.lexer.specs.declared.token.Symbol.{Symbol}
use Rattle.lexer.specs.declared.token.Symbol.TheVariants.{Dot, Comma, Semicolon, OpenParen, CloseParen, Equals, Less}
use Rattle.lexer.specs.declared.token.Token.{Token}
use Rattle.lexer.specs.declared.token.Token.TheVariants as case
use Rattle.lexer.specs.Keyword.{word}

-- a token: its kind and its bytes (a field's with its `@`, a string's without its quotes)
pub data Terminal : Type 0 where
  identifier : List ℕ → Terminal
  integer : List ℕ → Terminal
  field : List ℕ → Terminal
  string : List ℕ → Terminal
  keyword : Keyword → Terminal
  symbol : Symbol → Terminal

abbrev pub sign : Symbol → ℕ
sign Dot = 46
sign Comma = 44
sign Semicolon = 59
sign OpenParen = 40
sign CloseParen = 41
sign Equals = 61
sign Less = 60

-- the bytes that a token has in a text
abbrev pub spelling : Terminal → List ℕ
spelling (identifier w) = w
spelling (integer w) = w
spelling (field w) = w
spelling (string w) = 34 ∷ (w ++ 34 ∷ [])
spelling (keyword k) = word k
spelling (symbol s) = sign s ∷ []

-- what a token of the code stands for
abbrev pub terminal : Token → Terminal
terminal (case.Identifier w) = identifier w.now
terminal (case.Integer w) = integer w.now
terminal (case.Field w) = field w.now
terminal (case.Str w) = string w.now
terminal (case.Keyword k) = keyword k
terminal (case.Symbol s) = symbol s

abbrev pub kind_name : Terminal → List ℕ
kind_name (identifier w) = codes "identifier"
kind_name (integer w) = codes "integer"
kind_name (field w) = codes "field"
kind_name (string w) = codes "string"
kind_name (keyword k) = codes "keyword"
kind_name (symbol s) = codes "symbol"
