-- Integers of 32 bits: one arithmetic for the machine and for the language. Assumes nothing.
use Rattle.std.specs.Prelude.{zero, suc, Bool, ℤ, pos, negsuc, ◌+ℤ◌, ◌-ℤ◌, ◌*ℤ◌, Ok, Err, int_div, int_le, int_lt}
use Rattle.std.specs.Int.{int_wrap, w32}
use Rattle.machine.specs.declared.ending.Ending.TheVariants.{DivisionByZero}
use Rattle.machine.specs.declared.arith.Op.{Op}
use Rattle.machine.specs.declared.arith.Op.TheVariants.{Add, Sub, Mul, Div}
use Rattle.machine.specs.declared.arith.Order.{Order}
use Rattle.machine.specs.declared.arith.Order.TheVariants.{Less, AtMost}
use Rattle.machine.specs.Outcome.{Outcome}

-- a result that does not fit 32 bits wraps modulo 2^32
abbrev pub fitted : ℤ → Outcome ℤ
fitted z = Ok (int_wrap w32 z)

-- the fraction is dropped towards zero; nothing is divided by zero
abbrev pub quotient : ℤ → ℤ → Outcome ℤ
quotient x (pos zero) = Err DivisionByZero
quotient x (pos (suc n)) = fitted (int_div x (pos (suc n)))
quotient x (negsuc n) = fitted (int_div x (negsuc n))

unfoldable pub arith : Op → ℤ → ℤ → Outcome ℤ
arith Add x y = fitted (x +ℤ y)
arith Sub x y = fitted (x -ℤ y)
arith Mul x y = fitted (x *ℤ y)
arith Div x y = quotient x y

abbrev pub in_order : Order → ℤ → ℤ → Bool
in_order Less x y = int_lt x y
in_order AtMost x y = int_le x y
