-- What the registers of a frame mean over the bytes that are lent with them. Assumes nothing.
use Rattle.std.specs.Prelude.{◌≡◌, ℕ, ◌≤◌, refl, List, map, Some, None, Ok, Err, Option, Result, slice_index_or}
use Rattle.text.specs.Memory.{Memory}
use Rattle.store.specs.declared.value.Value.{Value}
use Rattle.store.specs.Val.{Val, meaning, end_of}
use Rattle.store.specs.Answers.{meant}
use Rattle.store.specs.Tables.{Tables, made}
use Rattle.machine.specs.declared.ending.Ending.{Ending}
use Rattle.machine.specs.declared.ending.Ending.TheVariants.{Stuck}
use Rattle.machine.specs.Outcome.{Outcome, ◌>>=◌, unless}
use Rattle.machine.specs.State.{Registers}
use Rattle.machine.specs.Operands.{value_at, table_in}

unfoldable pub registers_of : Memory → List (Option Value) → Registers
registers_of m xs = map (meant m) xs

abbrev pub answered : Memory → Result Value Ending → Result Val Ending
answered m (Ok v) = Ok (meaning m v)
answered m (Err e) = Err e

-- where a register's value ends among the strings made
abbrev pub slot_end : Option Value → ℕ
slot_end None = 0
slot_end (Some v) = end_of v

-- no register refers to a string made at u or behind it
abbrev pub Within : ℕ → List (Option Value) → Type 0
Within u xs = (i : ℕ) → slot_end (slice_index_or xs i None) ≤ u

abbrev pub EndsBy : ℕ → Result Value Ending → Type 0
EndsBy u (Ok v) = end_of v ≤ u
EndsBy u (Err e) = Unit {0}

-- what was taken from a register, by what it means
abbrev pub taken : {A B : Type 0} → (A → B) → Result A Ending → Outcome B
taken means (Ok x) = Ok (means x)
taken means (Err e) = Err e

-- what is wanted of a register's value
abbrev pub wanted_at : {B : Type 0} → (Val → Outcome B) → Registers → ℕ → Outcome B
wanted_at wanted R a = value_at R a >>= wanted

-- a location, whether a table was made there or not
abbrev pub location_in : Val → Outcome ℕ
location_in (Val.int n) = Err Stuck
location_in (Val.string s) = Err Stuck
location_in (Val.identifier g) = Err Stuck
location_in (Val.location l) = Ok l

-- the table at a location is there if it was made
pub table-at_location : (T : Tables) (v : Val) → table_in T v ≡ (location_in v >>= (λ l. unless Stuck (made T l) (Ok l)))
table-at_location T (Val.int n) = refl
table-at_location T (Val.string s) = refl
table-at_location T (Val.identifier g) = refl
table-at_location T (Val.location l) = refl
