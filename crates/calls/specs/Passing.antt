-- The registers that a call passes. Assumes nothing.
use Rattle.std.specs.Prelude.{◌≡◌, ℕ, ◌+◌, ◌-◌, ◌≤◌, List, ◌++◌, map, length, take, drop, replicate, Some, None, Ok, Err, Option, Result}
use Rattle.text.specs.Memory.{Memory}
use Rattle.store.specs.declared.value.Value.{Value}
use Rattle.store.specs.Val.{Val}
use Rattle.machine.specs.declared.ending.Ending.{Ending}
use Rattle.machine.specs.Limits.{registers_per_frame}
use Rattle.machine.specs.Outcome.{Outcome}
use Rattle.operands.specs.Slots.{registers_of}
use Rattle.std.specs.declared.ops.Range.{Range}

-- xs with ys from the place `at` on
abbrev pub laid : {X : Type 0} → List X → ℕ → List X → List X
laid xs at ys = take at xs ++ (ys ++ drop (at + length ys) xs)

-- registers that are all set, by their values
abbrev pub Passes : Memory → List (Option Value) → Outcome (List Val) → Result (Range ℕ) Ending → Type 0
Passes m xs x (Ok a) =
    (vs : List Val)
    × (x ≡ Ok vs)
    × (map Some vs ≡ registers_of m (take (a.end - a.start) (drop a.start xs)))
    × (length vs ≡ a.end - a.start)
Passes m xs x (Err e) = x ≡ Err e

abbrev pub PassesWithin : ℕ → Result (Range ℕ) Ending → Type 0
PassesWithin n (Ok a) = (a.start ≤ a.end) × (a.end ≤ n)
PassesWithin n (Err e) = Unit {0}

-- a callee's registers: n registers from `from` on, and unset ones
abbrev pub handed : List (Option Value) → ℕ → ℕ → List (Option Value)
handed xs from n = take n (drop from xs) ++ replicate (registers_per_frame - n) None
