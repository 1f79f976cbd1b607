use Rattle.text.specs.Memory.{memory_of}
use Rattle.operands.specs.Slots.{registers_of}
use Rattle.operands.proofs.Slots.{compared}
use Rattle.operands.proofs.registers.equal.Goals as goal

pub returns-clause-computed : goal.returns-clause-computed
returns-clause-computed c =
    let m = memory_of c.args.bytes in
    compared (registers_of m c.args.registers.now) c.args.b.0 c.args.c.0 _ _ _ c.same.result (c.in_ok-x.ensures.held m) (c.in_ok-y.ensures.held m) c.same.ensures (c.truth.ensures.said m)
