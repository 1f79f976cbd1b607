-- What frames in lent memory mean: the running one, and the callers that wait. Assumes nothing.
use Rattle.std.specs.Prelude.{◌≡◌, ℕ, zero, suc, ◌*◌, ◌^◌, ◌<◌, ◌≤◌, List, [], ◌∷◌, length, take, drop, None, Ok, Err, Option, Result, slice_index_or}
use Rattle.text.specs.Memory.{Memory}
use Rattle.store.specs.declared.value.Value.{Value}
use Rattle.machine.specs.declared.ending.Ending.{Ending}
use Rattle.machine.specs.declared.instruction.Register.{Register}
use Rattle.machine.specs.Limits.{registers_per_frame, most_frames}
use Rattle.machine.specs.Outcome.{Outcome, ◌>>=◌, need}
use Rattle.machine.specs.Instr.{Instr, answer_register}
use Rattle.machine.specs.State.{World, State, at}
use Rattle.machine.specs.State as machine
use Rattle.machine.specs.Step.{invoke}
use Rattle.operands.specs.Slots.{registers_of, Within}
use Rattle.calls.specs.declared.frame.Frame.{Frame}
use Rattle.calls.specs.declared.frame.Frames.{Frames}
use Rattle.stack.specs.Held.{held, room}
use Rattle.effects.specs.Spending.{SameSlice}
use Rattle.calls.specs.Applying.{arguments_at}

-- the registers of the frame k, counted from the oldest
abbrev pub window : {X : Type 0} → List X → ℕ → List X
window xs k = take registers_per_frame (drop (registers_per_frame * k) xs)

abbrev pub no_frame : Frame
no_frame = record { function = record { 0 = 0 }; pc = record { 0 = 0 } }

-- the first n frames as callers, the latest first
unfoldable pub callers_of : Memory → List (Option Value) → List Frame → ℕ → List machine.Frame
callers_of m xs fs zero = []
callers_of m xs fs (suc n) =
    machine.frame (slice_index_or fs n no_frame).function.0 (slice_index_or fs n no_frame).pc.0 (registers_of m (window xs n))
    ∷ callers_of m xs fs n

-- how many callers wait
abbrev pub waiting : Frames → ℕ
waiting f = length (held f.callers)

abbrev pub callers_in : Memory → Frames → List machine.Frame
callers_in m f = callers_of m f.registers.now (held f.callers) (waiting f)

-- the running frame of registers beside so many callers
unfoldable pub state_at : Memory → List (Option Value) → List Frame → ℕ → Frame → World → State
state_at m xs fs n r W = at r.function.0 r.pc.0 (registers_of m (window xs n)) (callers_of m xs fs n) W

abbrev pub state_of : Memory → Frames → World → State
state_of m f W = state_at m f.registers.now (held f.callers) (waiting f) f.running W

-- no register of the running frame or of a caller refers to a string made at u or behind it
abbrev pub LiveIn : ℕ → List (Option Value) → ℕ → Type 0
LiveIn u xs n = (k : ℕ) → k ≤ n → Within u (window xs k)

abbrev pub LiveWithin : ℕ → Frames → Type 0
LiveWithin u f = LiveIn u f.registers.now (waiting f)

-- there is memory for all frames
pub record Sized (f : Frames) : Type 0 where
  pub callers : most_frames ≤ suc (room f.callers)
  pub registers : registers_per_frame * most_frames ≤ length f.registers.now

-- the same lender's memory
pub record SameFrames (f g : Frames) : Type 0 where
  pub callers : SameSlice f.callers.items g.callers.items
  pub registers : SameSlice f.registers g.registers

-- the state that a call or a return leads to, or nothing changed
abbrev pub Moved : Memory → World → Outcome State → Result (Unit {0}) Ending → Frames → Frames → Type 0
Moved m W x (Ok u) f g = x ≡ Ok (state_of m g W)
Moved m W x (Err e) f g = (x ≡ Err e) × (g ≡ f)

-- a call of the function g, which is none of the machine's own
abbrev pub enter_from : ℕ → ℕ → ℕ → State → Outcome State
enter_from g first last (at f pc R S W) = arguments_at R first last >>= (λ vs. invoke None g first vs (at f pc R S W))

-- the register that takes the answer of a call, if the instruction is one
abbrev pub target_of : Option Instr → Outcome ℕ
target_of o = need o >>= (λ i. need (answer_register i))

abbrev pub registered : Result Register Ending → Outcome ℕ
registered (Ok a) = Ok a.0
registered (Err e) = Err e

-- a call stands at a place that a code table can have
abbrev pub PlacedCall : ℕ → Result Register Ending → Type 0
PlacedCall pc (Ok a) = pc < 2 ^ 32
PlacedCall pc (Err e) = Unit {0}
