-- What a store answers to make, told by the count of its tables. Assumes nothing.
use Rattle.std.proofs.Common.{◌≡◌, ℕ, ◌+◌, ◌<◌, ◌≤◌, [], ◌∷◌, ◌++◌, length, Some, None, Option, MatchOption, sym, subst, arith}
use Rattle.store.specs.declared.value.Location.{Location}
use Rattle.store.specs.Tables.{Tables}
use Rattle.store.specs.Answers.{Makes}

-- n tables stood and k stand now, of most; Holds says which
pub makes : (Holds : ℕ → Tables → Type 0) (most n k : ℕ) (r : Option Location) (T : Tables) → length T ≡ n → Holds n T → Holds (n + 1) (T ++ [] ∷ [])
    → MatchOption r ((k ≡ n) × (most ≤ n)) (λ l. (l.0 ≡ n) × (n < most) × (k ≡ n + 1)) → Makes most T r (Holds k)
makes Holds most n k None T e h more a = (omega (arith, a.1), subst (λ (j : ℕ). Holds j T) (sym a.0) h)
makes Holds most n k (Some l) T e h more a =
    (omega (arith, a.1), omega (arith, a.0), subst (λ (j : ℕ). Holds j (T ++ [] ∷ [])) (sym a.2) more)
