use Rattle.std.proofs.Common.{arith}
use Rattle.syntax.proofs.Reading.{handed}
use Rattle.syntax.proofs.Naming.{no_names}
use Rattle.syntax.proofs.Methods.{method-name-lost, method-open-lost, method-parameters-lost, body-lost, method-end-lost, method-made}
use Rattle.syntax.proofs.source.Text.method.Goals as goal

pub returns-in_err-called : goal.returns-in_err-called
returns-in_err-called c =
    rw (handed c.from_residual.result c.from_residual.ensures.1) (record { moves = tt; reads = method-name-lost c.in_err-called.ensures.found })

pub returns-in_err-open : goal.returns-in_err-open
returns-in_err-open c =
    rw (handed c.from_residual-in_err-open.result c.from_residual-in_err-open.ensures.1) (record { moves = tt; reads = method-open-lost (record { is = c.in_ok-called.ensures.found }) c.in_err-open.ensures.found })

pub returns-in_err-listed : goal.returns-in_err-listed
returns-in_err-listed c =
    rw (handed c.from_residual-in_err-listed.result c.from_residual-in_err-listed.ensures.1) (record { moves = tt; reads = method-parameters-lost (record { is = c.in_ok-called.ensures.found }) (record { is = c.in_ok-open.ensures.found.1 }) c.in_err-listed.ensures.reads })

pub returns-in_err-body : goal.returns-in_err-body
returns-in_err-body c =
    rw (handed c.from_residual-in_err-body.result c.from_residual-in_err-body.ensures.1) (record { moves = tt; reads = body-lost (record { is = c.in_ok-called.ensures.found }) (record { is = c.in_ok-open.ensures.found.1 }) c.in_ok-listed.ensures.reads c.in_err-body.ensures.reads })

pub returns-in_err-to : goal.returns-in_err-to
returns-in_err-to c =
    rw (handed c.from_residual-in_err-to.result c.from_residual-in_err-to.ensures.1) (record { moves = tt; reads = method-end-lost (record { is = c.in_ok-called.ensures.found }) (record { is = c.in_ok-open.ensures.found.1 }) c.in_ok-listed.ensures.reads c.in_ok-body.ensures.reads c.in_err-to.ensures.found })

pub returns : goal.returns
returns c =
    let i = c.in_ok-called.ensures.inside in
    let j = c.in_ok-open.ensures.inside in
    let k = c.in_ok-listed.ensures.moves in
    let m = c.in_ok-body.ensures.moves in
    let e = c.in_ok-to.ensures.inside in
    record {
      moves = (omega arith, omega arith, omega arith, omega arith);
      reads = method-made (record { is = c.in_ok-called.ensures.found }) (record { is = c.in_ok-open.ensures.found.1 }) c.in_ok-listed.ensures.reads c.in_ok-body.ensures.reads (record { is = c.in_ok-to.ensures.found.1 }) c.span.ensures.where_they_lie (omega arith) (omega arith) m (no_names c.new-names.ensures.room c.new-names.ensures.held) c.len.ensures c.within.ensures.each_limit;
    }
