-- A call, whichever function it names, and what it leaves. Assumes nothing.
use Rattle.std.specs.Prelude.{◌≡◌, ℕ, ◌≤◌, length, Some, Ok, Err, Result}
use Rattle.text.specs.Memory.{Memory}
use Rattle.text.specs.Agree.{Grown}
use Rattle.store.specs.Tables.{Table, Tables}
use Rattle.machine.specs.declared.builtin.Builtin.{Builtin}
use Rattle.machine.specs.declared.ending.Ending.{Ending}
use Rattle.machine.specs.Limits.{most_string_bytes}
use Rattle.machine.specs.Outcome.{Outcome, ◌>>=◌}
use Rattle.machine.specs.State.{World, State, at}
use Rattle.machine.specs.Operands.{function_at}
use Rattle.machine.specs.Builtin.{builtin_of}
use Rattle.machine.specs.Step.{invoke}
use Rattle.effects.specs.declared.spent.Spent.{Spent}
use Rattle.effects.specs.Spending.{effects_of}
use Rattle.effects.specs.declared.literals.Literals.{Literals}
use Rattle.calls.specs.declared.frame.Frames.{Frames}
use Rattle.calls.specs.Applying.{arguments_at, memory_in}
use Rattle.calls.specs.Frames.{state_of, LiveWithin, Sized}

-- what stands in the memory that a call works on
pub record Content : Type 0 where
  pub literals : Literals
  pub spent : Spent
  pub frames : Frames

abbrev pub content : Literals → Spent → Frames → Content
content l p f = record { literals = l; spent = p; frames = f }

-- the bytes that strings lie in
abbrev pub memory_of : Content → Memory
memory_of b = memory_in b.literals b.spent

-- there is memory for all that a call can leave
pub record Roomy (b : Content) : Type 0 where
  pub sized : Sized b.frames
  pub strings : most_string_bytes ≤ length b.spent.strings.bytes.now

-- the world beside tables and globals, and the state in it
abbrev pub world_in : Tables → Table → Content → World
world_in T G b = record { tables = T; globals = G; effects = effects_of b.spent }

abbrev pub state_in : Content → World → State
state_in b W = state_of (memory_of b) b.frames W

-- a call of one of the machine's own functions
abbrev pub answer_from : Builtin → ℕ → ℕ → ℕ → State → Outcome State
answer_from k g first last (at f pc R S W) =
    arguments_at R first last >>= (λ vs. invoke (Some k) g first vs (at f pc R S W))

-- a call of whatever a register names
abbrev pub call_from : ℕ → ℕ → ℕ → State → Outcome State
call_from a first last (at f pc R S W) =
    function_at R a
    >>= (λ g. arguments_at R first last >>= (λ vs. invoke (builtin_of g) g first vs (at f pc R S W)))

-- the state that a call leads to; strings made before stay
pub record Went (b : Content) (T : Tables) (G : Table) (x : Outcome State) (e : Content) : Type 0 where
  pub state : x ≡ Ok (state_in e (world_in T G e))
  pub grown : Grown b.spent.strings.used (memory_of b) (memory_of e)
  pub more : b.spent.strings.used ≤ e.spent.strings.used
  pub live : LiveWithin e.spent.strings.used e.frames

-- a call leads on, or ends the run and changes nothing
abbrev pub Called : Content → Tables → Table → Outcome State → Result (Unit {0}) Ending → Content → Type 0
Called b T G x (Ok u) e = Went b T G x e
Called b T G x (Err c) e = (x ≡ Err c) × (e ≡ b)
