-- Registers and callers mean the same once more strings are made.
use Rattle.std.proofs.Common.{◌≡◌, ℕ, zero, suc, ◌<◌, ◌≤◌, List, [], ◌∷◌, get_or, Some, None, Option, refl, ap, arith}
use Rattle.text.specs.Memory.{Memory}
use Rattle.text.specs.Agree.{Grown}
use Rattle.store.specs.declared.value.Value.{Value}
use Rattle.store.specs.Answers.{meant}
use Rattle.store.specs.ValuesLemmas.{meaning-grown}
use Rattle.machine.specs.State as machine
use Rattle.operands.specs.Slots.{registers_of, slot_end, Within}
use Rattle.calls.specs.declared.frame.Frame.{Frame}
use Rattle.calls.specs.Frames.{window, no_frame, callers_of, LiveIn}

module _ (u : ℕ) (m n : Memory) (g : Grown u m n) where
  slot-grown : (o : Option Value) → slot_end o ≤ u → meant m o ≡ meant n o
  slot-grown None h = refl
  slot-grown (Some v) h = ap Some (meaning-grown u m n v g h)

  pub registers-grown : (xs : List (Option Value)) → Within u xs → registers_of m xs ≡ registers_of n xs
  unfolding registers_of
  registers-grown [] h = refl
  registers-grown (x ∷ xs) h = (λ i. slot-grown x (h 0) i ∷ registers-grown xs (λ k. h (suc k)) i)

  pub callers-grown : (xs : List (Option Value)) (fs : List Frame) (w : ℕ) → ((k : ℕ) → k < w → Within u (window xs k)) → callers_of m xs fs w ≡ callers_of n xs fs w
  unfolding callers_of
  callers-grown xs fs zero h = refl
  callers-grown xs fs (suc w) h =
      (λ i. machine.frame (get_or fs w no_frame).function.0 (get_or fs w no_frame).pc.0 (registers-grown (window xs w) (h w (omega arith)) i) ∷ callers-grown xs fs w (λ k l. h k (omega arith)) i)

pub live-wider : (u v : ℕ) (xs : List (Option Value)) (w : ℕ) → u ≤ v → LiveIn u xs w → LiveIn v xs w
live-wider u v xs w l h k a i = let b = h k a i in omega arith
