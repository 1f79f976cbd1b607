use Rattle.std.proofs.Common.{arith}
use Rattle.syntax.proofs.Reading.{handed}
use Rattle.syntax.proofs.Methods.{no-members, member-lost, member-made}
use Rattle.syntax.proofs.source.Text.members.Goals as goal

pub loop-to-init : goal.loop-to-init
loop-to-init c = (omega arith, omega arith, omega arith, omega arith, no-members c.requires.none.0 c.requires.none.1)

pub returns-in_err-defined : goal.returns-in_err-defined
returns-in_err-defined c =
    rw (handed c.from_residual.result c.from_residual.ensures.1) (record { moves = tt; reads = member-lost c.loop-to.invariant.4 (record { is = c.in-Some.ensures.found.1 }) c.in_err-defined.ensures.reads })

pub loop-to-preserved : goal.loop-to-preserved
loop-to-preserved c =
    let i = c.in-Some.ensures.inside in
    let m = c.in_ok-defined.ensures.moves in
    let p = c.push.ensures in
    let v = c.loop-to.invariant in
    (omega arith, omega arith, omega arith, omega arith, member-made v.4 (record { is = c.in-Some.ensures.found.1 }) c.in_ok-defined.ensures.reads p.count p.items p.lender (omega arith))

pub returns : goal.returns
returns c =
    let v = c.loop-to.invariant in
    record { moves = (omega arith, omega arith); reads = (v.4, c.in_default.ensures.found) }
