-- Code that is being laid. Assumes nothing.
use Rattle.std.specs.Prelude.{◌≡◌, ℕ, suc, ◌+◌, ◌-◌, ◌^◌, ◌≤◌, Bool, ◌&&◌, List, All, length, ℤ, pos, Some, None, Option, nat_lt, slice_set}
use Rattle.text.specs.Memory.{Memory}
use Rattle.machine.specs.declared.instruction.Register.{Register}
use Rattle.machine.specs.Instr.{Instr, Program}
use Rattle.code.specs.declared.table.Record.{Record}
use Rattle.code.specs.declared.table.Extent.{Extent}
use Rattle.code.specs.declared.table.Open.{Open}
use Rattle.code.specs.Programs.{code_at, program_at}

-- a program's functions: the main one, those of the built-in operations, and at most 64 methods
abbrev pub function_limit : ℕ
function_limit = 82

-- the byte of the text that a record came from
abbrev pub origin : Record → ℕ
origin x = x.origin

-- behind the last record
abbrev pub end_of : Extent → ℕ
end_of e = e.start + e.len

-- the table has these functions finished, and this code of the one under way
pub record Lays (m : Memory) (xs : List Record) (o : Open) (P : Program) (c : List Instr) : Type 0 where
  pub finished : program_at m xs o.finished.items ≡ P
  pub current : code_at m xs o.current ≡ c
  -- no finished function reaches into the one under way
  pub apart : All (λ (e : Extent). end_of e ≤ o.current.start) o.finished.items
  pub inside : end_of o.current ≤ length xs

-- one more record has room in a table of n
abbrev pub has_room : Open → ℕ → Bool
has_room o n = nat_lt (end_of o.current) n && nat_lt o.current.len (2 ^ 31 - 1)

-- one more function does
abbrev pub has_function_room : Open → Bool
has_function_room o = nat_lt (suc (length o.finished.items)) function_limit && nat_lt (end_of o.current) (2 ^ 32)

-- a jump, if the register holds 0 or, without one, in any case
abbrev pub jump_of : Option Register → ℤ → Instr
jump_of None n = Instr.jmp n
jump_of (Some a) n = Instr.if_zero a.0 n

-- the code in which the jump at a place leads to its end
abbrev pub landed_of : Option Register → ℕ → List Instr → List Instr
landed_of t p c = slice_set c p (jump_of t (pos (length c - suc p)))
