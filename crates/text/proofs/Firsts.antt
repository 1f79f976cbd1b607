-- The first place is one place, and a test that decides finds it. Assumes nothing.
use Rattle.std.proofs.Common.{◌≡◌, ℕ, zero, suc, ◌<◌, Bool, true, false, cond, List, [], ◌∷◌, map, length, get_or, Some, None, Decides, Option, refl, ap, add-one, arith}
use Rattle.std.proofs.lemmas.Bool.Decides.{not_from_Decides}
use Rattle.text.specs.First.{First, later, first_place}

module _ {E : Type 0} (P : E → Type 0) where
  -- at a place that is there, some default can be named
  holds-nowhere : (xs : List E) (i : ℕ) → i < length xs → ((d : E) → P (get_or xs i d)) → ((k : ℕ) (d : E) → k < length xs → P (get_or xs k d) → ⊥) → ⊥
  holds-nowhere [] i h p none = absurd (omega arith)
  holds-nowhere (x ∷ xs) i h p none = none i x h (p x)

  holds-before : (xs : List E) (i j : ℕ) → i < length xs → i < j → ((d : E) → P (get_or xs i d)) → ((k : ℕ) (d : E) → k < j → P (get_or xs k d) → ⊥) → ⊥
  holds-before [] i j h l p none = absurd (omega arith)
  holds-before (x ∷ xs) i j h l p none = none i x l (p x)

  -- two first places are one
  pub first-unique : (xs : List E) (r s : Option ℕ) → First P xs r → First P xs s → r ≡ s
  first-unique xs None None f g = refl
  first-unique xs None (Some j) f g = absurd (holds-nowhere xs j g.0 g.1 f)
  first-unique xs (Some i) None f g = absurd (holds-nowhere xs i f.0 f.1 g)
  first-unique xs (Some i) (Some j) f g =
      let a : i < j → ⊥ = λ h. holds-before xs i j f.0 h f.1 g.2 in
      let b : j < i → ⊥ = λ h. holds-before xs j i g.0 h g.1 f.2 in
      ap Some (omega (arith, a, b))

  none_before : (x : E) (xs : List E) (n : ℕ) → (P x → ⊥) → ((k : ℕ) (d : E) → k < n → P (get_or xs k d) → ⊥) → (k : ℕ) (d : E) → k < suc n → P (get_or (x ∷ xs) k d) → ⊥
  none_before x xs n apart none zero d h q = apart q
  none_before x xs n apart none (suc k) d h q = none k d (omega arith) q

  first-cons : (x : E) (xs : List E) (b : Bool) (r : Option ℕ) → Decides b (P x) → First P xs r → First P (x ∷ xs) (cond b (Some 0) (later r))
  first-cons x xs true r e f = (omega arith, (λ d. e.0 refl), λ k d h. absurd (omega arith))
  first-cons x xs false None e f = none_before x xs (length xs) (not_from_Decides false e refl) f
  first-cons x xs false (Some i) e f =
      rw add-one (omega (arith, f.0), f.1, none_before x xs i (not_from_Decides false e refl) f.2)

  -- a test that decides P finds the first place
  pub first-first_place : (p : E → Bool) → ((e : E) → Decides (p e) (P e)) → (xs : List E) → First P xs (first_place p xs)
  unfolding first_place
  first-first_place p e [] = λ k d h. absurd (omega arith)
  first-first_place p e (x ∷ xs) = first-cons x xs (p x) (first_place p xs) (e x) (first-first_place p e xs)

  pub first_place-from-first : (p : E → Bool) → ((e : E) → Decides (p e) (P e)) → (xs : List E) (r : Option ℕ) → First P xs r → r ≡ first_place p xs
  first_place-from-first p e xs r f = first-unique xs r (first_place p xs) f (first-first_place p e xs)

-- the first place among what the entries mean
pub first_place-map : {E M : Type 0} (f : E → M) (p : M → Bool) (xs : List E) → first_place p (map f xs) ≡ first_place (λ e. p (f e)) xs
unfolding first_place
first_place-map f p [] = refl
first_place-map f p (x ∷ xs) = ap (λ r. cond (p (f x)) (Some 0) (later r)) (first_place-map f p xs)
