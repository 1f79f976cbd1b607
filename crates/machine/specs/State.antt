-- What a machine holds between two steps. Assumes nothing.
use Rattle.std.specs.Prelude.{ℕ, zero, suc, ◌-◌, List, [], ◌∷◌, ◌++◌, map, length, replicate, Some, None, Option, slice_index_or}
use Rattle.store.specs.Val.{Val}
use Rattle.store.specs.Tables.{Table, Tables}
use Rattle.machine.specs.declared.ending.Ending.{Ending}
use Rattle.machine.specs.Limits.{registers_per_frame}
use Rattle.machine.specs.Effects.{Effects, nothing_yet}

-- the registers of a frame from 0 on; past the end of the list none is set
abbrev pub Registers : Type 0
Registers = List (Option Val)

abbrev pub read : Registers → ℕ → Option Val
read R i = slice_index_or R i None

-- total: a list that is too short grows
unfoldable pub write : Registers → ℕ → Val → Registers
write [] zero v = Some v ∷ []
write [] (suc i) v = None ∷ write [] i v
write (x ∷ R) zero v = Some v ∷ R
write (x ∷ R) (suc i) v = x ∷ write R i v

-- a callee's registers: what it was passed, and unset ones
unfoldable pub passed : List Val → Registers
passed vs = map Some vs ++ replicate (registers_per_frame - length vs) None

-- a caller that waits: its function, the place of its call, its registers
pub data Frame : Type 0 where
  frame : (f pc : ℕ) (R : Registers) → Frame

-- what all frames share; a global stands under its identifier
pub record World : Type 0 where
  pub tables : Tables
  pub globals : Table
  pub effects : Effects

abbrev pub with_tables : Tables → World → World
with_tables T W = record { tables = T; globals = W.globals; effects = W.effects }

abbrev pub with_globals : Table → World → World
with_globals G W = record { tables = W.tables; globals = G; effects = W.effects }

abbrev pub with_effects : Effects → World → World
with_effects o W = record { tables = W.tables; globals = W.globals; effects = o }

-- the running frame, and the callers that wait, the latest first
pub data State : Type 0 where
  at : (f pc : ℕ) (R : Registers) (S : List Frame) (W : World) → State

abbrev pub world_of : State → World
world_of (at f pc R S W) = W

-- a run begins at place 0 of function 0, with no table and no global
abbrev pub initial : ℕ → State
initial left = at 0 0 (passed []) [] (record { tables = []; globals = []; effects = nothing_yet left })

-- a step leads on, or ends the run with what it has made and printed; an ending step changes nothing
pub data Next : Type 0 where
  goes : State → Next
  ends : Ending → Effects → Next
