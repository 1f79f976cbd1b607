-- Which bytes a span refers to, and memories that agree on them. Assumes nothing.
use Rattle.std.specs.Prelude.{◌≡◌, ℕ, ◌+◌, ◌<◌, ◌≤◌, slice_index}
use Rattle.text.specs.declared.span.Space.{Space}
use Rattle.text.specs.declared.span.Space.TheVariants.{Fixed, Texts, Made}
use Rattle.text.specs.declared.span.Span.{Span}
use Rattle.text.specs.Memory.{Memory, byte_of}

-- the span refers to the byte i of the space p
abbrev pub Refers : Span → Space → ℕ → Type 0
Refers s p i = (s.space ≡ p) × (s.start ≤ i) × (i < s.start + s.len)

-- both memories have the same byte wherever P says
abbrev pub Agree : (Space → ℕ → Type 0) → Memory → Memory → Type 0
Agree P m n = (p : Space) (i : ℕ) → P p i → byte_of m p i ≡ byte_of n p i

-- n is m, but for strings made at u or behind it
abbrev pub Grown : ℕ → Memory → Memory → Type 0
Grown u m n =
    (m.fixed ≡ n.fixed) × (m.texts ≡ n.texts) × ((i : ℕ) → i < u → slice_index m.made i ≡ slice_index n.made i)

-- where a span ends among the strings made; 0 if it lies elsewhere
abbrev pub end_at : Space → ℕ → ℕ
end_at Fixed e = 0
end_at Texts e = 0
end_at Made e = e

abbrev pub made_end : Span → ℕ
made_end s = end_at s.space (s.start + s.len)
