-- The tokens of a text from a place on. Assumes nothing.
use Rattle.std.specs.Prelude.{ℕ, zero, suc, ◌-◌, List, [], ◌∷◌, map, length}
use Rattle.lexer.specs.Token.{Terminal}
use Rattle.lexer.specs.Lexing.{Next, next}
use Rattle.lexer.specs.Tokens.{Placed}

-- the next token, and what `behind` gives from its end on
abbrev pub onward : Next → (ℕ → List Placed) → List Placed
onward (Next.token t from to) behind = record { token = t; place = from } ∷ behind to
onward Next.end behind = []
onward (Next.stray p) behind = []

-- the tokens from `at` on, as many as the first number at most
unfoldable pub up_to : ℕ → List ℕ → ℕ → List Placed
up_to zero text at = []
up_to (suc d) text at = onward (next text at) (up_to d text)

-- the tokens from `at` on, up to the text's end or a byte that no token has: each takes a byte at least
unfoldable pub left : List ℕ → ℕ → List Placed
left text at = up_to (suc (length text - at)) text at

-- the same without their places
abbrev pub terms : List ℕ → ℕ → List Terminal
terms text at = map (λ p. p.token) (left text at)

abbrev pub places : List ℕ → ℕ → List ℕ
places text at = map (λ p. p.place) (left text at)
