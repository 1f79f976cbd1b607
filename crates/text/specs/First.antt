-- The first entry of a list of which something holds. Assumes nothing.
use Rattle.std.specs.Prelude.{ℕ, ◌+◌, ◌<◌, Bool, cond, List, [], ◌∷◌, length, Some, None, Option, MatchOption, slice_index_or}

-- r is the first place of xs at which P holds, or None where it holds at none
abbrev pub First : {E : Type 0} → (E → Type 0) → List E → Option ℕ → Type 0
First {E} P xs r =
    MatchOption r ((k : ℕ) (d : E) → k < length xs → P (slice_index_or xs k d) → ⊥)
    (λ i. (i < length xs) × ((d : E) → P (slice_index_or xs i d)) × ((k : ℕ) (d : E) → k < i → P (slice_index_or xs k d) → ⊥))

-- one place on
abbrev pub later : Option ℕ → Option ℕ
later None = None
later (Some i) = Some (i + 1)

-- the first place at which a test passes, for models that compute it
unfoldable pub first_place : {E : Type 0} → (E → Bool) → List E → Option ℕ
first_place p [] = None
first_place p (x ∷ xs) = cond (p x) (Some 0) (later (first_place p xs))
