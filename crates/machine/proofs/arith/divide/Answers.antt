use Rattle.machine.proofs.Wraps.{divided}
use Rattle.machine.proofs.arith.divide.Goals as goal

pub returns-else-b-eq0 : goal.returns-else-b-eq0
returns-else-b-eq0 c =
    record { towards_zero = divided c.args.a c.args.b c.wrapping_div.result c.ranges.a c.ranges.b c.if-b-eq0.false c.wrapping_div.ensures (record { sfits = c.wrapping_div.type_inv }) }
