-- A token as the parser sees it: its sort and where its bytes lie. Assumes nothing.
use Rattle.std.specs.Prelude.{ℕ, ◌+◌, ◌-◌, List, [], ◌∷◌, take, drop, Some, None, Option}
use Rattle.lexer.specs.Token.{Terminal, identifier, integer, field, string, keyword, symbol}
use Rattle.lexer.specs.Tokens.{Placed}
use Rattle.syntax.specs.declared.sight.Sort.{Sort}
use Rattle.syntax.specs.declared.sight.Sort.TheVariants as sort
use Rattle.syntax.specs.Left.{left}

-- the bytes `from` up to `to`
abbrev pub slice : List ℕ → ℕ → ℕ → List ℕ
slice text from to = take (to - from) (drop from text)

-- the token of that sort with the bytes `from` up to `to`
abbrev pub token_as : List ℕ → Sort → ℕ → ℕ → Terminal
token_as text sort.Name from to = identifier (slice text from to)
token_as text sort.Integer from to = integer (slice text from to)
token_as text sort.Field from to = field (slice text from to)
token_as text sort.Str from to = string (slice text (from + 1) (to - 1))
token_as text (sort.Word k) from to = keyword k
token_as text (sort.Sign s) from to = symbol s

-- the tokens from a place on, where such a token is the first
abbrev pub shown : List ℕ → Sort → ℕ → ℕ → List Placed
shown text s from to = record { token = token_as text s from to; place = from } ∷ left text to

abbrev pub sort_of : Terminal → Sort
sort_of (identifier w) = sort.Name
sort_of (integer w) = sort.Integer
sort_of (field w) = sort.Field
sort_of (string w) = sort.Str
sort_of (keyword k) = sort.Word k
sort_of (symbol s) = sort.Sign s

-- the sort of the first token, if there is one
abbrev pub head_sort : List Terminal → Option Sort
head_sort [] = None
head_sort (t ∷ ts) = Some (sort_of t)
