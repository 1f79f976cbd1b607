use Rattle.std.proofs.Common.{◌∙◌}
use Rattle.text.specs.Memory.{memory_of}
use Rattle.store.specs.Val.{meaning}
use Rattle.store.proofs.Tables.{read-write}
use Rattle.store.proofs.laws.write_then_read.Goals as goal

pub returns-clause-read : goal.returns-clause-read
returns-clause-read g c = λ T h.
    let m = memory_of c.args.bytes in
    let w = c.in_ok-write.ensures.holds T h in
    (c.in_ok-read.ensures.holds _ w.2).1
    ∙ read-write T c.args.key.location.0 (meaning m c.args.key.value) (meaning m c.args.value) (meaning m c.args.asked) w.0
