-- When lent memory stands for a state of the machine, and what a step leaves. Assumes nothing.
use Rattle.std.specs.Prelude.{◌≡◌, ℕ, ◌<◌, ◌≤◌, List, [], length, take, Ok, Err, Result, slice_index_or}
use Rattle.stack.specs.Held.{held}
use Rattle.text.specs.Memory.{Memory}
use Rattle.store.specs.declared.Store.{Ghosts}
use Rattle.store.specs.Tables.{Tables}
use Rattle.machine.specs.declared.ending.Ending.{Ending}
use Rattle.machine.specs.Limits.{Limits, most_frames, most_string_bytes}
use Rattle.machine.specs.Outcome.{Outcome, ◌>>=◌}
use Rattle.machine.specs.Instr.{Program}
use Rattle.machine.specs.State.{State, at, world_of, Next, goes, ends}
use Rattle.machine.specs.Operands.{value_at}
use Rattle.machine.specs.Step.{return, halted}
use Rattle.operands.specs.Globals.{globals_of, GlobalsWithin}
use Rattle.operands.specs.Answering.{constant_end}
use Rattle.code.specs.declared.table.Record.{Record}
use Rattle.code.specs.declared.table.Extent.{Extent}
use Rattle.code.specs.declared.table.Sealed.{Sealed}
use Rattle.code.specs.Programs.{program_of, records_at, extent_of}
use Rattle.calls.specs.declared.program.Code.{Code}
use Rattle.calls.specs.declared.frame.Calls.{Calls}
use Rattle.calls.specs.declared.frame.Frames.{Frames}
use Rattle.effects.specs.declared.spent.Numbers.{Numbers}
use Rattle.calls.specs.Applying.{SameSpace}
use Rattle.calls.specs.Frames.{LiveWithin, Sized, SameFrames}
use Rattle.calls.specs.Calling.{Content, content, memory_of, world_in, state_in}
use Rattle.vm.specs.declared.run.Run.{Run}

-- what stands in the memory that is lent to a run, but for the store: the code, and all that the run holds
pub record Lent : Type 0 where
  pub code : Code
  pub run : Run

abbrev pub lent : Code → Run → Lent
lent c r = record { code = c; run = r }

-- what of it a call works on
abbrev pub content_of : Lent → Content
content_of l = content l.code.literals l.run.spent l.run.frames

-- the bytes that strings lie in
abbrev pub memory_at : Lent → Memory
memory_at l = memory_of (content_of l)

-- there is memory for all that a step can leave
pub record Roomy (r : Run) : Type 0 where
  pub sized : Sized r.frames
  pub strings : most_string_bytes ≤ length r.spent.strings.bytes.now

-- what these numbers count can stand in room for so many callers, bytes of strings and bytes of output
pub record Counted (c : Calls) (n : Numbers) (room made out : ℕ) : Type 0 where
  pub few : c.waiting < most_frames
  pub callers : c.waiting ≤ room
  pub strings : n.bytes ≤ made
  pub charged : n.bytes ≤ most_string_bytes
  pub printed : n.printed ≤ out

-- the same lender's memory
pub record SameMemory (r q : Run) : Type 0 where
  pub frames : SameFrames r.frames q.frames
  pub space : SameSpace r.spent q.spent

-- a run that begins as r did, whatever stands beyond what it holds
pub record Begins (r q : Run) : Type 0 where
  pub running : q.frames.running ≡ r.frames.running
  pub callers : held q.frames.callers ≡ []
  pub registers : q.frames.registers.now ≡ r.frames.registers.now
  pub globals : q.globals ≡ r.globals
  pub count : q.spent.strings.count ≡ 0
  pub used : q.spent.strings.used ≡ 0
  pub printed : q.spent.output.printed ≡ 0

-- what a store has room for
abbrev pub limits_of : {S : Type 0} → Ghosts S → S → Limits
limits_of G s = record { tables = G.tables s; pairs = G.room s }

-- the state, beside the tables that the store holds
abbrev pub state_with : Lent → Tables → State
state_with l T = state_in (content_of l) (world_in T (globals_of (memory_at l) l.run.globals) (content_of l))

-- no constant refers to a string made at u or behind it
abbrev pub RecordsWithin : ℕ → List Record → Type 0
RecordsWithin u xs = (i : ℕ) (d : Record) → i < length xs → constant_end (slice_index_or xs i d).instruction ≤ u

-- in any function of the code; what stands elsewhere in the table does not matter
abbrev pub CodeWithin : ℕ → Sealed → List Record → Type 0
CodeWithin u s xs =
    (f : ℕ) (d : Extent) → f < length (take s.functions s.extents) → RecordsWithin u (records_at xs (extent_of s f d))

-- lent memory and a store stand for the state m of a run of the program P;
-- whatever refers to a string refers to one that was made
pub record Stands {S : Type 0} (G : Ghosts S) (s : S) (l : Lent) (P : Program) (L : Limits) (m : State) : Type 0 where
  pub tables : Tables
  pub state : m ≡ state_with l tables
  pub program : P ≡ program_of (memory_at l) l.code.sealed.now l.code.records.now
  pub space : L ≡ limits_of G s
  pub held : G.holds s (memory_at l) tables
  pub store-within : G.within s l.run.spent.strings.used
  pub live-within : LiveWithin l.run.spent.strings.used l.run.frames
  pub globals-within : GlobalsWithin l.run.spent.strings.used l.run.globals
  pub code-within : CodeWithin l.run.spent.strings.used l.code.sealed.now l.code.records.now

-- an instruction leads on, or ends the run and leaves the state
abbrev pub Does : Outcome State → State → Result (Unit {0}) Ending → (State → Type 0) → Type 0
Does x m (Ok u) stands = (n : State) × (x ≡ Ok n) × stands n
Does x m (Err e) stands = (x ≡ Err e) × stands m

-- so does a step
abbrev pub Steps : Next → State → Result (Unit {0}) Ending → (State → Type 0) → Type 0
Steps x m (Ok u) stands = (n : State) × (x ≡ goes n) × stands n
Steps x m (Err e) stands = (x ≡ ends e (world_of m).effects) × stands m

-- the frames are as they were
pub record Unmoved (f g : Frames) : Type 0 where
  pub running : g.running ≡ f.running
  pub callers : g.callers ≡ f.callers
  pub registers : g.registers.now ≡ f.registers.now

-- an instruction that stays in its frame leaves tables and globals, or nothing changed
abbrev pub Stayed : (Tables → Outcome State) → Outcome State → Result (Unit {0}) Ending → Type 0 → (Tables → Type 0) → Tables → Type 0
Stayed after x (Ok u) same holds T = (U : Tables) × (x ≡ after U) × holds U
Stayed after x (Err e) same holds T = (x ≡ Err e) × same × holds T

-- back to the caller with what a register holds
abbrev pub return_from : Program → ℕ → State → Outcome State
return_from P a (at f pc R S W) = value_at R a >>= (λ v. return P v S W)

-- the ending that a register asks for
abbrev pub halt_from : ℕ → State → Outcome State
halt_from a (at f pc R S W) = value_at R a >>= (λ v. Err (halted v))
