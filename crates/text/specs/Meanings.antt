-- What spans mean: their bytes one by one, when two mean the same, and what other bytes change. Assumes nothing.
use Rattle.std.specs.Prelude.{◌≡◌, ℕ, ◌+◌, ◌<◌, ◌≤◌, true, false, List, [], ◌∷◌, length, Decides, ◌==◌, slice_index, slice_index_or, slice_set, refl}
use Rattle.std.proofs.Common.{sym, ap, subst, ◌∙◌, arith}
use Rattle.std.proofs.lemmas.List.FromFn.{length-map-range_with_len, get_or-map-range_with_len}
use Rattle.std.proofs.lemmas.List.{same_lists, get_or-set_other}
use Rattle.std.proofs.lemmas.Bool.Decides.{Decides-eqb, Decides-like, Decides-and}
use Rattle.text.specs.declared.span.Space.{Space}
use Rattle.text.specs.declared.span.Space.TheVariants.{Fixed, Texts, Made}
use Rattle.text.specs.declared.span.Span.{Span}
use Rattle.text.specs.Memory.{Memory, byte_of, bytes_of, equal_bytes}
use Rattle.text.specs.Agree.{Refers, Agree, Grown, end_at, made_end}

-- a test that came out false is not true
pub not-true : {A : Type 0} → false ≡ true → A
not-true e = let z : ◌≡◌ {A = ℕ} 0 1 = cc in absurd (omega arith)

pub length-bytes_of : (m : Memory) (s : Span) → length (bytes_of m s) ≡ s.len
unfolding bytes_of
length-bytes_of m s = length-map-range_with_len (byte_of m s.space) s.start s.len

pub get_or-bytes_of : (m : Memory) (s : Span) (k d : ℕ) → k < s.len → slice_index_or (bytes_of m s) k d ≡ byte_of m s.space (s.start + k)
unfolding bytes_of
get_or-bytes_of m s k d h =
    get_or-map-range_with_len (byte_of m s.space) s.start s.len k (s.start + k) d h refl

module _ (m n : Memory) (s t : Span) where
  -- spans of the same length and bytes mean the same
  pub same-from-bytes : s.len ≡ t.len → ((k : ℕ) → k < s.len → byte_of m s.space (s.start + k) ≡ byte_of n t.space (t.start + k)) → bytes_of m s ≡ bytes_of n t
  same-from-bytes e f =
      same_lists _ _ (length-bytes_of m s ∙ e ∙ sym (length-bytes_of n t))
      (λ k d h.
      let g : k < s.len = omega (arith, length-bytes_of m s) in
      get_or-bytes_of m s k d g ∙ f k g ∙ sym (get_or-bytes_of n t k d (omega arith)))

  -- spans that mean the same have the same length and bytes
  pub length-from-same : bytes_of m s ≡ bytes_of n t → s.len ≡ t.len
  length-from-same e = sym (length-bytes_of m s) ∙ ap length e ∙ length-bytes_of n t

  pub byte-from-same : bytes_of m s ≡ bytes_of n t → (k : ℕ) → k < s.len → byte_of m s.space (s.start + k) ≡ byte_of n t.space (t.start + k)
  byte-from-same e k h =
      sym (get_or-bytes_of m s k 0 h) ∙ ap (λ (b : List ℕ). slice_index b k) e
      ∙ get_or-bytes_of n t k 0 (omega (arith, length-from-same e))

-- bytes that a span does not refer to do not matter
pub bytes_of-agree : (m n : Memory) (s : Span) → Agree (Refers s) m n → bytes_of m s ≡ bytes_of n s
bytes_of-agree m n s f =
    same-from-bytes m n s s refl (λ k h. f s.space (s.start + k) (refl, omega arith, omega arith))

grown-agrees : (u : ℕ) (m n : Memory) (s : Span) → Grown u m n → made_end s ≤ u → Agree (Refers s) m n
grown-agrees u m n s g h Fixed i r = ap (λ (b : List ℕ). slice_index b i) g.0
grown-agrees u m n s g h Texts i r = ap (λ (b : List ℕ). slice_index b i) g.1
grown-agrees u m n s g h Made i r =
    let e : s.start + s.len ≤ u = subst (λ (p : Space). end_at p (s.start + s.len) ≤ u) r.0 h in
    g.2 i (omega arith)

-- a span that ends by u means the same once strings were made from u on
pub bytes_of-grown : (u : ℕ) (m n : Memory) (s : Span) → Grown u m n → made_end s ≤ u → bytes_of m s ≡ bytes_of n s
bytes_of-grown u m n s g h = bytes_of-agree m n s (grown-agrees u m n s g h)

pub grown-none : (u : ℕ) (m : Memory) → Grown u m m
grown-none u m = (refl, refl, λ i h. refl)

pub grown-more : (u v : ℕ) (l m n : Memory) → u ≤ v → Grown u l m → Grown v m n → Grown u l n
grown-more u v l m n h f g = (f.0 ∙ g.0, f.1 ∙ g.1, λ i k. f.2 i k ∙ g.2 i (omega arith))

-- a byte written at u or behind it
pub grown-byte : (u at b : ℕ) (m : Memory) → u ≤ at → Grown u m (record { fixed = m.fixed; texts = m.texts; made = slice_set m.made at b })
grown-byte u at b m h = (refl, refl, λ i k. sym (get_or-set_other m.made at i b 0 (omega arith)))

-- equality of byte lists means the same bytes
pub decides-bytes : (xs ys : List ℕ) → Decides (equal_bytes xs ys) (xs ≡ ys)
unfolding equal_bytes
decides-bytes [] [] = ((λ e. refl), (λ e. refl))
decides-bytes [] (y ∷ ys) = (not-true, λ e. cc)
decides-bytes (x ∷ xs) [] = (not-true, λ e. cc)
decides-bytes (x ∷ xs) (y ∷ ys) =
    Decides-like _ (λ e. let p = e.0 in let q = e.1 in cc) (λ e. (cc, cc))
    (Decides-and (x == y) (equal_bytes xs ys) (Decides-eqb x y) (decides-bytes xs ys))
