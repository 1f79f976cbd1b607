-- What a step and a run in measured steps leave, told by what the lent memory stands for. Assumes nothing.
use Rattle.std.specs.Prelude.{◌≡◌, ℕ, Some, None, Ok, Err, Option, Result}
use Rattle.machine.specs.declared.ending.Ending.{Ending}
use Rattle.machine.specs.Limits.{Limits}
use Rattle.machine.specs.Instr.{Program}
use Rattle.machine.specs.State as machine
use Rattle.machine.specs.State.{State, world_of, goes, ends}
use Rattle.machine.specs.Run.{run, steps_made}
use Rattle.vm.specs.declared.run.TooSmall.{TooSmall}
use Rattle.vm.specs.declared.run.Ran.{Ran}
use Rattle.vm.specs.Standing.{Steps}

-- a step, or a refusal that leaves the state
abbrev pub Stepped : machine.Next → State → Result (Option Ending) TooSmall → (State → Type 0) → Type 0
Stepped x m (Ok None) stands = Steps x m (Ok tt) stands
Stepped x m (Ok (Some e)) stands = Steps x m (Err e) stands
Stepped x m (Err t) stands = stands m

-- where a run has come to: a state, or an ending with what was made and printed
abbrev pub ComesTo : machine.Next → Option Ending → (State → Type 0) → Type 0
ComesTo x None stands = (k : State) × (x ≡ goes k) × stands k
ComesTo x (Some e) stands = (k : State) × (x ≡ ends e (world_of k).effects) × stands k

-- a run of at most n steps
abbrev pub RanBy : Program → Limits → ℕ → State → Ran → (State → Type 0) → Type 0
RanBy P L n m a stands = (a.steps ≡ steps_made P L n m) × ComesTo (run P L n m) a.ending stands

-- or a refusal that leaves the state
abbrev pub RanTo : Program → Limits → ℕ → State → Result Ran TooSmall → (State → Type 0) → Type 0
RanTo P L n m (Ok a) stands = RanBy P L n m a stands
RanTo P L n m (Err t) stands = stands m
