use Rattle.std.proofs.Common.{ap, arith}
use Rattle.syntax.proofs.Reading.{handed}
use Rattle.syntax.proofs.Methods.{no-parameters-made, first-listed, parameters-lost, parameters-close-lost, parameters-made, next-parameter-lost, next-listed}
use Rattle.syntax.proofs.source.Text.parameters.Goals as goal

pub returns-in-Some : goal.returns-in-Some
returns-in-Some c =
    let i = c.in-Some.ensures.inside in
    record { moves = (omega arith, omega arith); reads = no-parameters-made (record { is = c.in-Some.ensures.found.1 }) (ap (λ z. record { to = c.in-Some.to; parameters = z }) c.default-none.ensures) }

pub returns-in_err-first : goal.returns-in_err-first
returns-in_err-first c =
    rw (handed c.from_residual.result c.from_residual.ensures.1) (record { moves = tt; reads = parameters-lost c.in_default.ensures.found c.in_err-first.ensures.found })

pub returns-in_err-next : goal.returns-in_err-next
returns-in_err-next c =
    rw (handed c.from_residual-in_err-next.result c.from_residual-in_err-next.ensures.1) (record { moves = tt; reads = next-parameter-lost c.loop-to.invariant.3 (record { is = c.in-Some-after.ensures.found.1 }) c.in_err-next.ensures.found })

pub returns-in_err-to : goal.returns-in_err-to
returns-in_err-to c =
    rw (handed c.from_residual-in_err-to.result c.from_residual-in_err-to.ensures.1) (record { moves = tt; reads = parameters-close-lost c.loop-to.invariant.3 c.in_default-after.ensures.found c.in_err-to.ensures.found })

pub loop-to-init : goal.loop-to-init
loop-to-init c =
    let i = c.in_ok-first.ensures.inside in
    let d = c.add-listed.ensures.one_more in
    let e = ap (λ z. z.count) c.default-none.ensures in
    let t = d.to_is in
    let m = d.many in
    (omega arith, omega arith, omega arith, first-listed (record { is = c.in_ok-first.ensures.found }) (ap (λ z. record { to = c.args.at; parameters = z }) c.default-none.ensures) d (omega arith) (omega arith))

pub loop-to-preserved : goal.loop-to-preserved
loop-to-preserved c =
    let i = c.in-Some-after.ensures.inside in
    let j = c.in_ok-next.ensures.inside in
    let d = c.add-listed-in-Some-after.ensures.one_more in
    let t = d.to_is in
    let m = d.many in
    let v = c.loop-to.invariant in
    (omega arith, omega arith, omega arith, next-listed v.3 (record { is = c.in-Some-after.ensures.found.1 }) (record { is = c.in_ok-next.ensures.found }) d (omega arith) (omega arith))

pub returns : goal.returns
returns c =
    let i = c.in_ok-to.ensures.inside in
    let v = c.loop-to.invariant in
    record { moves = (omega arith, omega arith); reads = parameters-made v.3 (record { is = c.in_ok-to.ensures.found.1 }) }
