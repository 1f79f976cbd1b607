-- What a code table means: a program of the machine. Assumes nothing.
use Rattle.std.specs.Prelude.{◌≡◌, ℕ, ◌<◌, List, map, length, take, drop, Some, None, Ok, Err, Option, slice_index_or}
use Rattle.text.specs.Memory.{Memory}
use Rattle.machine.specs.Instr.{Instr, Program, instr}
use Rattle.machine.specs.declared.ending.Ending.TheVariants.{Stuck}
use Rattle.machine.specs.Outcome.{Outcome}
use Rattle.code.specs.declared.table.Place.{Place}
use Rattle.code.specs.declared.table.Record.{Record}
use Rattle.code.specs.declared.table.Extent.{Extent}
use Rattle.code.specs.declared.table.Sealed.{Sealed}

-- what a record means
abbrev pub meant : Memory → Record → Instr
meant m x = instr m x.instruction

abbrev pub meant_record : Memory → Option Record → Option Instr
meant_record m None = None
meant_record m (Some x) = Some (meant m x)

-- the code of a function: what stands of its extent in the table
unfoldable pub code_at : Memory → List Record → Extent → List Instr
code_at m xs e = map (meant m) (take e.len (drop e.start xs))

-- the functions in the order of their numbers
unfoldable pub program_at : Memory → List Record → List Extent → Program
program_at m xs es = map (code_at m xs) es

abbrev pub program_of : Memory → Sealed → List Record → Program
program_of m s xs = program_at m xs (take s.functions s.extents)

-- the records of a function
abbrev pub records_at : List Record → Extent → List Record
records_at xs e = take e.len (drop e.start xs)

-- the function f, if there is one
abbrev pub extent_of : Sealed → ℕ → Extent → Extent
extent_of s f d = slice_index_or (take s.functions s.extents) f d

-- the record x stands at the place pc of the function f
pub record StandsAt (s : Sealed) (xs : List Record) (f pc : ℕ) (x : Record) : Type 0 where
  pub function : f < length (take s.functions s.extents)
  pub place : (d : Extent) → pc < length (records_at xs (extent_of s f d))
  pub is : (d : Extent) → slice_index_or (records_at xs (extent_of s f d)) pc x ≡ x

-- where a jump led, if there is such a place
abbrev pub led : Option Place → Outcome ℕ
led None = Err Stuck
led (Some p) = Ok p.0
