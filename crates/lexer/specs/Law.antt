-- What a text's tokens are, in the words of the language. Assumes nothing.
use Rattle.std.specs.Prelude.{◌≡◌, ℕ, ◌+◌, ◌<◌, ◌≤◌, Bool, true, false, ◌&&◌, ◌||◌, ◌⊎◌, List, [], ◌∷◌, ◌++◌, length, drop, None, ◌≢◌}
use Rattle.std.specs.Str.{bytes_eq}
use Rattle.std.specs.List.{AllByRecursion}
use Rattle.lexer.specs.declared.token.Keyword.{Keyword}
use Rattle.lexer.specs.declared.byte.Run.TheVariants.{Quoted}
use Rattle.lexer.specs.Byte.{blank, digit, identifying, goes_on}
use Rattle.lexer.specs.Keyword.{word, keyword_of}
use Rattle.lexer.specs.Token.{Terminal, identifier, integer, field, string, keyword, symbol, spelling}
use Rattle.lexer.specs.Lexing.{Next}
use Rattle.lexer.specs.Tokens.{Placed, Tokens, tokens}

-- one or more characters of identifiers
abbrev pub Word : List ℕ → Type 0
Word w = (0 < length w) × AllByRecursion (λ b. identifying b ≡ true) w

-- digits, with a `-` before them or without
abbrev pub Number : List ℕ → Type 0
Number [] = ⊥
Number (b ∷ bs) = ((digit b ≡ true) ⊎ ((b ≡ 45) × (0 < length bs))) × AllByRecursion (λ d. digit d ≡ true) bs

-- an identifier that no keyword is
abbrev pub Free : List ℕ → Type 0
Free w = Word w × (keyword_of w ≡ None)

-- `@` with an identifier directly behind it
abbrev pub Field : List ℕ → Type 0
Field [] = ⊥
Field (b ∷ w) = (b ≡ 64) × Free w

-- the tokens that there are
abbrev pub Formed : Terminal → Type 0
Formed (identifier w) = Free w
Formed (integer w) = Number w
Formed (field w) = Field w
Formed (string w) = AllByRecursion (λ b. goes_on Quoted b ≡ true) w
Formed (keyword k) = Unit {0}
Formed (symbol s) = Unit {0}

-- would a token with this byte behind it go on? (a lone `-` would, before a digit)
abbrev pub goes_with : Terminal → ℕ → Bool
goes_with (identifier w) b = identifying b || (bytes_eq w (45 ∷ []) && digit b)
goes_with (integer w) b = digit b
goes_with (field w) b = identifying b
goes_with (string w) b = false
goes_with (keyword k) b = identifying b
goes_with (symbol s) b = false

-- the first byte, if there is one, does not pass the test
abbrev pub Stops : (ℕ → Bool) → List ℕ → Type 0
Stops f [] = Unit {0}
Stops f (b ∷ bs) = f b ≡ false

-- these bytes begin with this token, which ends before `more`
pub record Begins (bytes : List ℕ) (t : Terminal) (more : List ℕ) : Type 0 where
  pub formed : Formed t
  pub written : bytes ≡ spelling t ++ more
  pub parted : Stops (goes_with t) more

-- from the place `at` on, the bytes are these tokens with blanks between and then `rest`
pub data Reads : ℕ → List ℕ → List Placed → List ℕ → Type 0 where
  here : {at : ℕ} {bytes : List ℕ} → Reads at bytes [] bytes
  gap : {at b : ℕ} {bytes : List ℕ} {ps : List Placed} {rest : List ℕ} → blank b ≡ true → Reads (at + 1) bytes ps rest → Reads at (b ∷ bytes) ps rest
  item : {at : ℕ} {bytes : List ℕ} {t : Terminal} {more : List ℕ} {ps : List Placed} {rest : List ℕ}
      → Begins bytes t more → Reads (at + length (spelling t)) more ps rest → Reads at bytes (record { token = t; place = at } ∷ ps) rest

-- the first byte is no blank and begins no token
pub data Stuck : List ℕ → Type 0 where
  stuck : {b : ℕ} {bytes : List ℕ} → blank b ≡ false → ((t : Terminal) (more : List ℕ) → Begins (b ∷ bytes) t more → ⊥) → Stuck (b ∷ bytes)

-- from `at` on there are blanks, and then this token, the text's end, or a byte that no token has
abbrev pub Stands : List ℕ → ℕ → Next → Type 0
Stands text at (Next.token t from to) = Reads at (drop at text) (record { token = t; place = from } ∷ []) (drop to text)
Stands text at Next.end = Reads at (drop at text) [] []
Stands text at (Next.stray p) = Reads at (drop at text) [] (drop p text) × Stuck (drop p text)

-- what comes from `at` on lies in a text of n bytes, and a token has a byte at least
abbrev pub Inside : ℕ → ℕ → Next → Type 0
Inside n at (Next.token t from to) = (at ≤ from) × (from < to) × (to ≤ n)
Inside n at Next.end = Unit {0}
Inside n at (Next.stray p) = (at ≤ p) × (p < n)

pub record Law : Type 0 where
  -- tokens and blanks, written one after another, are the text again
  pub written : (text : List ℕ) (ps : List Placed) → tokens text ≡ Tokens.all ps → Reads 0 text ps []
  -- there is no other way to read it
  pub unique : (text : List ℕ) (ps : List Placed) → Reads 0 text ps [] → tokens text ≡ Tokens.all ps
  -- a text is refused at the first byte that no token has, or at a quote that is never closed
  pub refused : (text : List ℕ) (p : ℕ) → tokens text ≡ Tokens.stray p → (ps : List Placed) × (Reads 0 text ps (drop p text) × Stuck (drop p text))
  -- no token could have been longer
  pub longest : (bytes : List ℕ) (t : Terminal) (more : List ℕ) → Begins bytes t more → (u : Terminal) (other : List ℕ) → Formed u → bytes ≡ spelling u ++ other → length (spelling u) ≤ length (spelling t)
  -- no keyword is an identifier
  pub reserved : (bytes more : List ℕ) (w : List ℕ) (k : Keyword) → Begins bytes (identifier w) more → w ≢ word k
