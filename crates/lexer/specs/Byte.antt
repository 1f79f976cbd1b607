-- What each byte can do in a text. Assumes nothing.
use Rattle.std.specs.Prelude.{ℕ, Bool, false, cond, not, ◌||◌, ◌==◌, nat_le}
use Rattle.lexer.specs.declared.token.Symbol.TheVariants.{Dot, Comma, Semicolon, OpenParen, CloseParen, Equals, Less}
use Rattle.lexer.specs.declared.byte.ByteKind.{ByteKind}
use Rattle.lexer.specs.declared.byte.ByteKind.TheVariants.{Blank, Identifying, Minus, Digit, At, Quote, Sign, Stray}
use Rattle.lexer.specs.declared.byte.Run.{Run}
use Rattle.lexer.specs.declared.byte.Run.TheVariants.{Blanks, Identifier, Digits, Quoted}

abbrev pub between : ℕ → ℕ → ℕ → Bool
between a z b = cond (nat_le a b) (nat_le b z) false

-- space, tab, CR, LF
abbrev pub blank : ℕ → Bool
blank b = b == 32 || (b == 9 || (b == 13 || b == 10))

abbrev pub digit : ℕ → Bool
digit b = between 48 57 b

abbrev pub letter : ℕ → Bool
letter b = between 97 122 b || between 65 90 b

-- the sign of an integer, and a character of identifiers
abbrev pub minus : ℕ
minus = 45

-- the letters and + - * / _ ! ?
abbrev pub identifying : ℕ → Bool
identifying b =
    letter b || (b == 43 || (b == 45 || (b == 42 || (b == 47 || (b == 95 || (b == 33 || b == 63))))))

-- which bytes a run goes on with
abbrev pub goes_on : Run → ℕ → Bool
goes_on Blanks b = blank b
goes_on Identifier b = identifying b
goes_on Digits b = digit b
goes_on Quoted b = not (b == 34)

-- the kind of a byte
abbrev pub kind_of : ℕ → ByteKind
kind_of b =
    cond (blank b) Blank
    (cond (b == 45) Minus
    (cond (identifying b) Identifying
    (cond (digit b) Digit
    (cond (b == 64) At
    (cond (b == 34) Quote
    (cond (b == 46) (Sign Dot)
    (cond (b == 44) (Sign Comma)
    (cond (b == 59) (Sign Semicolon)
    (cond (b == 40) (Sign OpenParen)
    (cond (b == 41) (Sign CloseParen)
    (cond (b == 61) (Sign Equals)
    (cond (b == 60) (Sign Less)
    Stray))))))))))))
