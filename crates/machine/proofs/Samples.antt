-- The definitions at work on small cases.
use Rattle.std.proofs.Common.{◌≡◌, [], ◌∷◌, pos, negsuc, Ok, Err, codes, refl}
use Rattle.std.specs.Fmt.{digits}
use Rattle.std.specs.Int.{int_wrap}
use Rattle.store.specs.Val.{Val}
use Rattle.machine.specs.declared.arith.Op.TheVariants.{Add, Mul, Div}
use Rattle.machine.specs.declared.ending.Ending.TheVariants.{Finished, DivisionByZero, NoOutputSpace, Stuck}
use Rattle.machine.specs.Limits.{Limits}
use Rattle.machine.specs.Arith.{arith}
use Rattle.machine.specs.Effects.{charge, print, nothing_yet}
use Rattle.machine.specs.Builtin.{apply}
use Rattle.machine.specs.Instr.{Instr, Program, fetch}
use Rattle.machine.specs.State.{write, passed, ends, initial}
use Rattle.machine.specs.Operands.{values_from}
use Rattle.machine.specs.Step.{exec, step}
use Rattle.machine.specs.Run.{run, steps_made}

sums-wrap : arith Add (pos 2147483647) (pos 1) ≡ Ok (negsuc 2147483647)
unfolding arith int_wrap
sums-wrap = refl

products-wrap : arith Mul (pos 65536) (pos 65536) ≡ Ok (pos 0)
unfolding arith int_wrap
products-wrap = refl

fractions-drop : arith Div (negsuc 6) (pos 2) ≡ Ok (negsuc 2)
unfolding arith int_wrap
fractions-drop = refl

least_by_minus_one : arith Div (negsuc 2147483647) (negsuc 0) ≡ Ok (negsuc 2147483647)
unfolding arith int_wrap
least_by_minus_one = refl

by_zero : arith Div (pos 1) (pos 0) ≡ Err DivisionByZero
unfolding arith
by_zero = refl

-- main adds 3 and 4 in a function of its own, makes a string of the sum and prints it
abbrev adds : Program
adds =
    (Instr.const 0 (Val.identifier 1)
    ∷ Instr.const 1 (Val.int (pos 3))
    ∷ Instr.const 2 (Val.int (pos 4))
    ∷ Instr.call 0 1 2
    ∷ Instr.const 0 (Val.identifier 65281)
    ∷ Instr.call 0 1 1
    ∷ Instr.const 0 (Val.identifier 65280)
    ∷ Instr.call 0 1 1
    ∷ Instr.ret 1
    ∷ [])
    ∷ (Instr.arith Add 0 0 1 ∷ Instr.ret 0 ∷ [])
    ∷ []

abbrev small : Limits
small = record { tables = 1; pairs = 1 }

prints-seven : run adds small 11 (initial 1) ≡ ends Finished (record { strings = 1; bytes = 1; output = codes "7"; left = 0 })
unfolding run step fetch exec write passed values_from arith int_wrap apply charge print digits
prints-seven = refl

in-eleven-steps : steps_made adds small 100 (initial 1) ≡ 11
unfolding steps_made step fetch exec write passed values_from arith int_wrap apply charge print digits
in-eleven-steps = refl

no-output-left : run adds small 10 (initial 0) ≡ ends NoOutputSpace (record { strings = 1; bytes = 1; output = []; left = 0 })
unfolding run step fetch exec write passed values_from arith int_wrap apply charge print digits
no-output-left = refl

-- a jump past the last instruction is a step, and the next one is stuck
leaps : run ((Instr.jmp (pos 5) ∷ []) ∷ []) small 2 (initial 9) ≡ ends Stuck (nothing_yet 9)
unfolding run step fetch exec passed
leaps = refl

-- a jump before place 0 is stuck at once
leaps-back : run ((Instr.jmp (negsuc 1) ∷ []) ∷ []) small 1 (initial 9) ≡ ends Stuck (nothing_yet 9)
unfolding run step fetch exec passed
leaps-back = refl
