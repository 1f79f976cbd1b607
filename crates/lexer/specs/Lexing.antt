-- The tokens of a text, one after another. Assumes nothing.
use Rattle.std.specs.Prelude.{ℕ, ◌+◌, cond, List, [], ◌∷◌, length, drop, Some, None, Ok, Err, Option, Result, nat_lt, slice_index}
use Rattle.std.specs.List.{take_while}
use Rattle.lexer.specs.declared.token.Keyword.{Keyword}
use Rattle.lexer.specs.declared.token.Lexed.{Lexed}
use Rattle.lexer.specs.declared.token.Stray.{Stray}
use Rattle.lexer.specs.declared.byte.ByteKind.{ByteKind}
use Rattle.lexer.specs.declared.byte.ByteKind.TheVariants as kind
use Rattle.lexer.specs.declared.byte.Run.TheVariants.{Blanks, Identifier, Digits, Quoted}
use Rattle.lexer.specs.Byte.{kind_of, goes_on, digit}
use Rattle.lexer.specs.Keyword.{keyword_of}
use Rattle.lexer.specs.Token.{Terminal, identifier, integer, field, string, keyword, symbol, spelling, terminal}

-- an identifier, unless a keyword is written so
abbrev pub worded : List ℕ → Option Keyword → Terminal
worded w None = identifier w
worded w (Some k) = keyword k

-- the identifier or keyword that begins with b, with bs behind it
abbrev pub word_of : ℕ → List ℕ → Terminal
word_of b bs = worded (b ∷ take_while (goes_on Identifier) bs) (keyword_of (b ∷ take_while (goes_on Identifier) bs))

-- the integer that begins with b, a digit or the `-` before one
abbrev pub integer_of : ℕ → List ℕ → Terminal
integer_of b bs = integer (b ∷ take_while (goes_on Digits) bs)

-- a `-` begins an integer before a digit, and else a word
abbrev pub minus_of : ℕ → List ℕ → Terminal
minus_of b bs = cond (digit (slice_index bs 0)) (integer_of b bs) (word_of b bs)

-- a field's name is an identifier, and no keyword
abbrev pub named : List ℕ → Option Keyword → Option Terminal
named [] k = None
named (b ∷ bs) None = Some (field (64 ∷ (b ∷ bs)))
named (b ∷ bs) (Some k) = None

-- the field whose `@` has bs behind it
abbrev pub field_of : List ℕ → Option Terminal
field_of bs = named (take_while (goes_on Identifier) bs) (keyword_of (take_while (goes_on Identifier) bs))

-- the string whose first quote has bs behind it, if another quote closes it
abbrev pub string_of : List ℕ → Option Terminal
string_of bs = cond (nat_lt (length (take_while (goes_on Quoted) bs)) (length bs)) (Some (string (take_while (goes_on Quoted) bs))) None

-- the token that a byte b of this kind begins, with bs behind it
abbrev pub begun : ℕ → List ℕ → ByteKind → Option Terminal
begun b bs kind.Blank = None
begun b bs kind.Identifying = Some (word_of b bs)
begun b bs kind.Minus = Some (minus_of b bs)
begun b bs kind.Digit = Some (integer_of b bs)
begun b bs kind.At = field_of bs
begun b bs kind.Quote = string_of bs
begun b bs (kind.Sign s) = Some (symbol s)
begun b bs kind.Stray = None

-- the token that begins right here, if one does
abbrev pub first : List ℕ → Option Terminal
first [] = None
first (b ∷ bs) = begun b bs (kind_of b)

-- the next token with the bytes `from` up to `to`, or the text's end, or a byte that no token has
pub data Next : Type 0 where
  token : Terminal → (from to : ℕ) → Next
  end : Next
  stray : ℕ → Next

abbrev pub placed : ℕ → Option Terminal → Next
placed from None = Next.stray from
placed from (Some t) = Next.token t from (from + length (spelling t))

-- what stands right at `from`
unfoldable pub starts : List ℕ → ℕ → Next
starts text from = cond (nat_lt from (length text)) (placed from (first (drop from text))) Next.end

-- what comes from `at` on, behind blanks
unfoldable pub next : List ℕ → ℕ → Next
next text at = starts text (at + length (take_while (goes_on Blanks) (drop at text)))

-- what an answer of the code says
abbrev pub lexed : Lexed → Next
lexed l = Next.token (terminal l.token) l.from l.to

abbrev pub found : Option Lexed → Next
found None = Next.end
found (Some l) = lexed l

abbrev pub answer : Result (Option Lexed) Stray → Next
answer (Ok o) = found o
answer (Err s) = Next.stray s.0

abbrev pub begins : Result Lexed Stray → Next
begins (Ok l) = lexed l
begins (Err s) = Next.stray s.0

-- what an answer of the iterator over tokens says
abbrev pub told : Option (Result Lexed Stray) → Next
told None = Next.end
told (Some r) = begins r

-- where the tokens go on behind an answer, in a text of n bytes
abbrev pub behind : ℕ → Next → ℕ
behind n (Next.token t from to) = to
behind n Next.end = n
behind n (Next.stray p) = n
