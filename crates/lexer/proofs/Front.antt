-- The longest front that passes a test, byte by byte. Assumes nothing.
use Rattle.std.proofs.Common.{◌≡◌, ℕ, Bool, true, false, cond, List, [], ◌∷◌, length, take, refl, ap, ◌∙◌}
use Rattle.std.proofs.lemmas.List.Folds.{length-prefix_len}
use Rattle.std.proofs.lemmas.List.Sums.{take_while-cons}
use Rattle.std.specs.List.{take_while}

pub front-passes : (f : ℕ → Bool) (b : ℕ) (bs : List ℕ) → f b ≡ true → take_while f (b ∷ bs) ≡ b ∷ take_while f bs
front-passes f b bs e = take_while-cons f b bs ∙ ap (λ t. cond t (b ∷ take_while f bs) []) e

pub front-stops : (f : ℕ → Bool) (b : ℕ) (bs : List ℕ) → f b ≡ false → take_while f (b ∷ bs) ≡ []
front-stops f b bs e = take_while-cons f b bs ∙ ap (λ t. cond t (b ∷ take_while f bs) []) e

pub front-none : (f : ℕ → Bool) → take_while f [] ≡ []
front-none f = refl

-- a front is as many bytes as it has
pub take-front : (f : ℕ → Bool) (xs : List ℕ) → take (length (take_while f xs)) xs ≡ take_while f xs
take-front f xs = ap (λ n. take n xs) (length-prefix_len f xs)
