-- What the globals of a run mean: a table whose keys are identifiers. Assumes nothing.
use Rattle.std.specs.Prelude.{◌≡◌, ℕ, ◌≤◌, true, false, All, map, Ok, Err, Result}
use Rattle.text.specs.Memory.{Memory}
use Rattle.store.specs.declared.value.Value.{Value}
use Rattle.store.specs.Val.{Val, meaning, end_of}
use Rattle.store.specs.Tables.{Table, put}
use Rattle.machine.specs.Step.{holds_global}
use Rattle.operands.specs.declared.globals.Global.{Global}
use Rattle.operands.specs.declared.globals.Globals.{Globals}
use Rattle.operands.specs.declared.globals.NoRoom.{NoRoom}

-- a name beside its value
abbrev pub filed : Memory → Global → Val × Val
filed m e = (Val.identifier e.name.0, meaning m e.value)

unfoldable pub globals_of : Memory → Globals → Table
globals_of m g = map (filed m) g.entries.items

-- no global refers to a string made at u or behind it
abbrev pub GlobalsWithin : ℕ → Globals → Type 0
GlobalsWithin u g = All (λ (e : Global). end_of e.value ≤ u) g.entries.items

-- a write that is refused changes nothing
abbrev pub WritesGlobal : Memory → ℕ → Value → Result (Unit {0}) NoRoom → Globals → Globals → Type 0
WritesGlobal m n v (Ok u) g h = (holds_global n (globals_of m g) ≡ true) × (globals_of m h ≡ put (Val.identifier n) (meaning m v) (globals_of m g))
WritesGlobal m n v (Err e) g h = (holds_global n (globals_of m g) ≡ false) × (h ≡ g)
