use Rattle.std.proofs.Common.{arith}
use Rattle.syntax.proofs.Numbers.{digits-read}
use Rattle.syntax.proofs.number.digits.Goals as goal

pub returns-in_err-checked_mul : goal.returns-in_err-checked_mul
returns-in_err-checked_mul c =
    let h = digits-read c.args.word.now c.loop-b.b-index c.loop-b.n (omega arith) c.loop-b.invariant.1 in
    rw c.from_residual.ensures (record { all_of_them = omega arith })

pub returns-in_err-n : goal.returns-in_err-n
returns-in_err-n c =
    let h = digits-read c.args.word.now c.loop-b.b-index c.loop-b.n (omega arith) c.loop-b.invariant.1 in
    rw c.from_residual-in_err-n.ensures (record { all_of_them = omega arith })
