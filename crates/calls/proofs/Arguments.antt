-- The arguments of a call, by their number.
use Rattle.std.proofs.Common.{◌≡◌, ℕ, zero, suc, ◌-◌, ◌<◌, ◌≤◌, ◌⊎◌, List, [], ◌∷◌, length, Some, None, Ok, Err, Option, sym, refl, ap, ◌∙◌, inl, inr, arith}
use Rattle.std.proofs.lemmas.List.{get_or_past}
use Rattle.std.proofs.lemmas.Bool.{cases_eq, cases_lt}
use Rattle.text.specs.Memory.{Memory}
use Rattle.store.specs.declared.value.Value.{Value}
use Rattle.store.specs.Val.{Val}
use Rattle.store.specs.Answers.{meant}
use Rattle.machine.specs.declared.ending.Ending.{Ending}
use Rattle.machine.specs.declared.ending.Ending.TheVariants.{Stuck}
use Rattle.machine.specs.Outcome.{Outcome, ◌>>=◌, need}
use Rattle.machine.specs.Builtin.{one, two}
use Rattle.machine.specs.State.{Registers, read}
use Rattle.machine.specs.Operands.{value_at, values_from}
use Rattle.operands.specs.Slots.{registers_of}
use Rattle.operands.proofs.Slots.{read-slot}
use Rattle.calls.specs.Applying.{arguments_at, only_at, both_at}

-- what is missing is stuck, and nothing else
missing : (o : Option Val) (e : Ending) → Err e ≡ need o → e ≡ Stuck
missing None e p = cc
missing (Some v) e p = let z : ◌≡◌ {A = ℕ} 0 1 = cc in absurd (omega arith)

-- all n values, or stuck
pub values-or-stuck : (R : Registers) (a n : ℕ) → ((vs : List Val) × (values_from R a n ≡ Ok vs) × (length vs ≡ n)) ⊎ (values_from R a n ≡ Err Stuck)
unfolding values_from
values-or-stuck R a zero = inl ([], refl, refl)
values-or-stuck R a (suc n) = first (read R a) refl (values-or-stuck R (suc a) n) where
  first : (o : Option Val) → read R a ≡ o → ((vs : List Val) × (values_from R (suc a) n ≡ Ok vs) × (length vs ≡ n)) ⊎ (values_from R (suc a) n ≡ Err Stuck) → ((vs : List Val) × ((need (read R a) >>= (λ v. values_from R (suc a) n >>= (λ vs. Ok (v ∷ vs)))) ≡ Ok vs) × (length vs ≡ suc n)) ⊎ ((need (read R a) >>= (λ v. values_from R (suc a) n >>= (λ vs. Ok (v ∷ vs)))) ≡ Err Stuck)
  first None e h = inr (rw e)
  first (Some v) e (inl (vs, p, l)) = inl (v ∷ vs, rw (e, p), ap suc l)
  first (Some v) e (inr p) = inr (rw (e, p))

module _ (R : Registers) (a b : ℕ) where
  -- a value alone
  pub only_one : (v : Val) → Ok v ≡ value_at R a → a ≡ b → Ok v ≡ only_at R a b
  unfolding values_from
  only_one v h e = let n : suc b - a ≡ 1 = omega arith in rw (n, ← h)

  pub not-one : (a ≡ b → ⊥) → Err Stuck ≡ only_at R a b
  not-one d = by (values-or-stuck R a (suc b - a)) where
    other : (vs : List Val) → length vs ≡ suc b - a → Err Stuck ≡ one vs
    other [] l = refl
    other (v ∷ []) l = absurd (d (omega arith))
    other (v ∷ w ∷ vs) l = refl

    by : ((vs : List Val) × (values_from R a (suc b - a) ≡ Ok vs) × (length vs ≡ suc b - a)) ⊎ (values_from R a (suc b - a) ≡ Err Stuck) → Err Stuck ≡ values_from R a (suc b - a) >>= one
    by (inl (vs, p, l)) = rw p (other vs l)
    by (inr p) = rw p

  -- two values
  pub both-two : (v w : Val) → Ok v ≡ value_at R a → Ok w ≡ value_at R b → suc a ≡ b → Ok (v, w) ≡ both_at R a b
  unfolding values_from
  both-two v w h k e = let n : suc b - a ≡ 2 = omega arith in rw (n, ← h, e, ← k)

  pub not-two : (suc a ≡ b → ⊥) → Err Stuck ≡ both_at R a b
  not-two d = by (values-or-stuck R a (suc b - a)) where
    other : (vs : List Val) → length vs ≡ suc b - a → Err Stuck ≡ two vs
    other [] l = refl
    other (v ∷ []) l = refl
    other (v ∷ w ∷ []) l = absurd (d (omega arith))
    other (v ∷ w ∷ x ∷ vs) l = refl

    by : ((vs : List Val) × (values_from R a (suc b - a) ≡ Ok vs) × (length vs ≡ suc b - a)) ⊎ (values_from R a (suc b - a) ≡ Err Stuck) → Err Stuck ≡ values_from R a (suc b - a) >>= two
    by (inl (vs, p, l)) = rw p (other vs l)
    by (inr p) = rw p

  -- without the first value there is none to use
  pub first-missing : {A : Type 0} (f : List Val → Outcome A) → f [] ≡ Err Stuck → (e : Ending) → Err e ≡ value_at R a → Err e ≡ arguments_at R a b >>= f
  unfolding values_from
  first-missing f h e p = by (suc b - a) where
    by : (n : ℕ) → Err e ≡ values_from R a n >>= f
    by zero = ap Err (missing (read R a) e p) ∙ sym h
    by (suc n) = rw (← p)

  -- the second of two is missing
  pub last-missing : (v : Val) → Ok v ≡ value_at R a → (e : Ending) → Err e ≡ value_at R b → Err e ≡ both_at R a b
  unfolding values_from
  last-missing v h e p = by (cases_eq (suc a) b) where
    by : (suc a ≡ b) ⊎ (suc a ≡ b → ⊥) → Err e ≡ both_at R a b
    by (inl q) = let n : suc b - a ≡ 2 = omega arith in rw (n, ← h, q, ← p)
    by (inr d) = ap Err (missing (read R b) e p) ∙ not-two d

-- for what holds whatever is lent
abbrev pub nowhere : Memory
nowhere = record { fixed = []; texts = []; made = [] }

-- a register that holds a value is one of the frame
pub held-there : (m : Memory) (xs : List (Option Value)) (a : ℕ) (v : Val) → Ok v ≡ value_at (registers_of m xs) a → a < length xs
held-there m xs a v h = by (cases_lt a (length xs)) where
  by : (a < length xs) ⊎ (length xs ≤ a) → a < length xs
  by (inl l) = l
  by (inr g) = let p = h ∙ ap need (read-slot m xs a ∙ ap (meant m) (get_or_past xs a None g)) in let z : ◌≡◌ {A = ℕ} 0 1 = cc in absurd (omega arith)
