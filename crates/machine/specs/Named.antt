-- What stands for a number: a function of the machine, an ending that a program can ask for. Assumes nothing.
use Rattle.std.specs.Prelude.{◌≡◌, ℤ, pos, Some, None, Ok, Err, Result}
use Rattle.store.specs.declared.value.Identifier.{Identifier}
use Rattle.store.specs.Val.{Val}
use Rattle.machine.specs.declared.builtin.Builtin.{Builtin}
use Rattle.machine.specs.declared.builtin.NotBuiltin.{NotBuiltin}
use Rattle.machine.specs.declared.ending.Ending.{Ending}
use Rattle.machine.specs.declared.ending.Ending.TheVariants.{Stuck}
use Rattle.machine.specs.declared.ending.NotAsked.{NotAsked}
use Rattle.machine.specs.Builtin.{builtin_of}
use Rattle.machine.specs.Ending.{number_of}
use Rattle.machine.specs.Step.{halted}

-- the function of the machine that has this name, if there is one
abbrev pub Named : Identifier → Result Builtin NotBuiltin → Type 0
Named name (Ok b) = Some b ≡ builtin_of name.0
Named name (Err e) = None ≡ builtin_of name.0

-- the ending that a program asks for by this number: what it does not know leaves it stuck
abbrev pub Asked : ℤ → Result Ending NotAsked → Type 0
Asked n (Ok e) = (pos (number_of e) ≡ n) × (e ≡ halted (Val.int n))
Asked n (Err e) = Stuck ≡ halted (Val.int n)
