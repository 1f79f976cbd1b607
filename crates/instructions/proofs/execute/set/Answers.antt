use Rattle.std.proofs.Common.{arith}
use Rattle.instructions.proofs.Acting.{answer-set}
use Rattle.instructions.proofs.execute.set.Goals as goal

pub returns-clause-set : goal.returns-clause-set
returns-clause-set c =
    let i = c.in_ok-i.ensures in
    λ m n. rw i.0 (answer-set m c.args.registers.now c.args.answer.target.0 c.args.answer.value c.in_ok-v.v c.in_ok-v.was n (omega (arith, i)))
