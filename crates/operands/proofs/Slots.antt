-- Registers and what they mean.
use Rattle.std.proofs.Common.{◌≡◌, ℕ, zero, suc, ◌<◌, ◌≤◌, Bool, List, [], ◌∷◌, length, get_or, set, Some, None, Ok, Decides, Option, sym, refl, ap, ◌∙◌, inl, inr, arith}
use Rattle.std.proofs.lemmas.List.{length-map, map-set, get_or-set_same, get_or-set_other}
use Rattle.std.proofs.lemmas.Bool.{cases_eq}
use Rattle.std.proofs.lemmas.Bool.Decides.{same_from_decides}
use Rattle.text.specs.Memory.{Memory}
use Rattle.store.specs.declared.value.Value.{Value}
use Rattle.store.specs.Val.{Val, equal_val, meaning, end_of}
use Rattle.store.specs.Answers.{meant}
use Rattle.store.specs.ValuesLemmas.{decides-val}
use Rattle.machine.specs.Outcome.{Outcome, need}
use Rattle.machine.specs.State.{Registers, read, write}
use Rattle.machine.proofs.Registers.{write-within}
use Rattle.machine.specs.Operands.{value_at, truth, same_at}
use Rattle.operands.specs.Slots.{registers_of, Within}

-- a register means what its slot means
pub read-slot : (m : Memory) (xs : List (Option Value)) (i : ℕ) → read (registers_of m xs) i ≡ meant m (get_or xs i None)
unfolding registers_of
read-slot m [] i = refl
read-slot m (x ∷ xs) zero = refl
read-slot m (x ∷ xs) (suc i) = read-slot m xs i

pub value-of-slot : (m : Memory) (xs : List (Option Value)) (i : ℕ) (x : Outcome Val) (o : Option Value) → x ≡ need (meant m o) → o ≡ get_or xs i None → x ≡ value_at (registers_of m xs) i
value-of-slot m xs i x o e f = e ∙ ap (λ z. need (meant m z)) f ∙ ap need (sym (read-slot m xs i))

-- what two registers hold is compared
pub compared : (R : Registers) (b c : ℕ) (v w u : Val) (t : Bool) → Ok v ≡ value_at R b → Ok w ≡ value_at R c → Decides t (v ≡ w) → u ≡ truth t → Ok u ≡ same_at R b c
compared R b c v w u t p q d e =
    rw (← p, ← q, e) (ap (λ s. Ok (truth s)) (same_from_decides t (equal_val v w) d (decides-val v w)))

length-registers_of : (m : Memory) (xs : List (Option Value)) → length (registers_of m xs) ≡ length xs
unfolding registers_of
length-registers_of m xs = length-map xs (meant m)

mapped-set : (m : Memory) (xs : List (Option Value)) (i : ℕ) (v : Value) → registers_of m (set xs i (Some v)) ≡ set (registers_of m xs) i (Some (meaning m v))
unfolding registers_of
mapped-set m xs i v = map-set (meant m) xs i (Some v)

-- a write to a slot is a write to the register
pub slot-set : (m : Memory) (xs : List (Option Value)) (i : ℕ) (v : Value) → i < length xs → registers_of m (set xs i (Some v)) ≡ write (registers_of m xs) i (meaning m v)
slot-set m xs i v h =
    mapped-set m xs i v ∙ sym (write-within (registers_of m xs) i (meaning m v) (omega (arith, length-registers_of m xs)))

pub slot-within : (u : ℕ) (xs : List (Option Value)) (i : ℕ) (v : Value) → i < length xs → Within u xs → end_of v ≤ u → Within u (set xs i (Some v))
slot-within u xs i v l h e k =
    elim (cases_eq k i) [
      | inl q ↦ rw (q, get_or-set_same xs i (Some v) None l) e
      | inr n ↦ rw (get_or-set_other xs i k (Some v) None n) (h k)
    ]
