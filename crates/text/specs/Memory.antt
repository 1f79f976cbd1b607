-- The three memories that strings lie in, and what a span means over them. Assumes nothing.
use Rattle.std.specs.Prelude.{ℕ, Bool, true, false, ◌&&◌, List, [], ◌∷◌, map, ◌==◌, slice_index}
use Rattle.std.specs.List.{range_with_len}
use Rattle.text.specs.declared.span.Space.{Space}
use Rattle.text.specs.declared.span.Space.TheVariants.{Fixed, Texts, Made}
use Rattle.text.specs.declared.span.Span.{Span}
use Rattle.text.specs.declared.span.Bytes.{Bytes}

-- the bytes of the fixed names, of the texts, and of the strings made
pub record Memory : Type 0 where
  pub fixed : List ℕ
  pub texts : List ℕ
  pub made : List ℕ

-- the memory that bytes lent with a call are
abbrev pub memory_of : Bytes → Memory
memory_of b = record { fixed = b.fixed.now; texts = b.texts.now; made = b.made.now }

abbrev pub space_of : Memory → Space → List ℕ
space_of m Fixed = m.fixed
space_of m Texts = m.texts
space_of m Made = m.made

-- a byte of a space; past the end it is 0
abbrev pub byte_of : Memory → Space → ℕ → ℕ
byte_of m p i = slice_index (space_of m p) i

-- what a span means: as many bytes as it is long, whatever is lent
unfoldable pub bytes_of : Memory → Span → List ℕ
bytes_of m s = map (byte_of m s.space) (range_with_len s.start s.len)

-- the test that two byte lists are the same
unfoldable pub equal_bytes : List ℕ → List ℕ → Bool
equal_bytes [] [] = true
equal_bytes [] (y ∷ ys) = false
equal_bytes (x ∷ xs) [] = false
equal_bytes (x ∷ xs) (y ∷ ys) = x == y && equal_bytes xs ys
