-- Runs in measured steps. Assumes nothing.
use Rattle.std.specs.Prelude.{ℕ, zero, suc}
use Rattle.machine.specs.Limits.{Limits}
use Rattle.machine.specs.Instr.{Program}
use Rattle.machine.specs.State.{State, Next, goes, ends}
use Rattle.machine.specs.Step.{step}

-- an ending ends what would follow
abbrev pub then : Next → (State → Next) → Next
then (goes m) k = k m
then (ends e o) k = ends e o

-- at most n steps
unfoldable pub run : Program → Limits → ℕ → State → Next
run P L zero m = goes m
run P L (suc n) m = then (step P L m) (run P L n)

abbrev pub further : Next → (State → ℕ) → ℕ
further (goes m) k = k m
further (ends e o) k = 0

-- how many of n steps are made: the step that ends a run is counted
unfoldable pub steps_made : Program → Limits → ℕ → State → ℕ
steps_made P L zero m = 0
steps_made P L (suc n) m = suc (further (step P L m) (steps_made P L n))
