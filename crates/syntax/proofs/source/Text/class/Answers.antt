use Rattle.std.proofs.Common.{arith}
use Rattle.syntax.proofs.Reading.{handed}
use Rattle.syntax.proofs.Classes.{class-word-lost, class-name-lost, less-lost, parent-lost, begin-lost, members-lost, class-end-lost, class-left, class-made}
use Rattle.syntax.proofs.source.Text.class.Goals as goal

pub returns-in_err-to : goal.returns-in_err-to
returns-in_err-to c =
    rw (handed c.from_residual.result c.from_residual.ensures.1) (record { reads = class-word-lost c.in_err-to.ensures.found })

pub returns-in_err-called : goal.returns-in_err-called
returns-in_err-called c =
    rw (handed c.from_residual-in_err-called.result c.from_residual-in_err-called.ensures.1) (record { reads = class-name-lost (record { is = c.in_ok-to.ensures.found.1 }) c.in_err-called.ensures.found })

pub returns-in_err-to-2 : goal.returns-in_err-to-2
returns-in_err-to-2 c =
    rw (handed c.from_residual-in_err-to-2.result c.from_residual-in_err-to-2.ensures.1) (record { reads = less-lost (record { is = c.in_ok-to.ensures.found.1 }) (record { is = c.in_ok-called.ensures.found }) c.in_err-to-2.ensures.found })

pub returns-in_err-parent : goal.returns-in_err-parent
returns-in_err-parent c =
    rw (handed c.from_residual-in_err-parent.result c.from_residual-in_err-parent.ensures.1) (record { reads = parent-lost (record { is = c.in_ok-to.ensures.found.1 }) (record { is = c.in_ok-called.ensures.found }) (record { is = c.in_ok-to-2.ensures.found.1 }) c.in_err-parent.ensures.found })

pub returns-in_err-to-3 : goal.returns-in_err-to-3
returns-in_err-to-3 c =
    rw (handed c.from_residual-in_err-to-3.result c.from_residual-in_err-to-3.ensures.1) (record { reads = begin-lost (record { is = c.in_ok-to.ensures.found.1 }) (record { is = c.in_ok-called.ensures.found }) (record { is = c.in_ok-to-2.ensures.found.1 }) (record { is = c.in_ok-parent.ensures.found }) c.in_err-to-3.ensures.found })

pub returns-in_err-all : goal.returns-in_err-all
returns-in_err-all c =
    rw (handed c.from_residual-in_err-all.result c.from_residual-in_err-all.ensures.1) (record { reads = members-lost (record { is = c.in_ok-to.ensures.found.1 }) (record { is = c.in_ok-called.ensures.found }) (record { is = c.in_ok-to-2.ensures.found.1 }) (record { is = c.in_ok-parent.ensures.found }) (record { is = c.in_ok-to-3.ensures.found.1 }) c.in_err-all.ensures.reads })

pub returns-in_err-to-4 : goal.returns-in_err-to-4
returns-in_err-to-4 c =
    rw (handed c.from_residual-in_err-to-4.result c.from_residual-in_err-to-4.ensures.1) (record { reads = class-end-lost (record { is = c.in_ok-to.ensures.found.1 }) (record { is = c.in_ok-called.ensures.found }) (record { is = c.in_ok-to-2.ensures.found.1 }) (record { is = c.in_ok-parent.ensures.found }) (record { is = c.in_ok-to-3.ensures.found.1 }) c.in_ok-all.ensures.reads.0 c.in_ok-all.ensures.reads.1 c.in_err-to-4.ensures.found })

pub returns-in_err-end : goal.returns-in_err-end
returns-in_err-end c =
    rw (handed c.from_residual-in_err-end.result c.from_residual-in_err-end.ensures.1) (record { reads = class-left (record { is = c.in_ok-to.ensures.found.1 }) (record { is = c.in_ok-called.ensures.found }) (record { is = c.in_ok-to-2.ensures.found.1 }) (record { is = c.in_ok-parent.ensures.found }) (record { is = c.in_ok-to-3.ensures.found.1 }) c.in_ok-all.ensures.reads.0 (record { is = c.in_ok-to-4.ensures.found.1 }) c.in_err-end.ensures.found })

pub returns : goal.returns
returns c =
    let i = c.in_ok-called.ensures.inside in
    let j = c.in_ok-parent.ensures.inside in
    record { reads = class-made (record { is = c.in_ok-to.ensures.found.1 }) (record { is = c.in_ok-called.ensures.found }) (record { is = c.in_ok-to-2.ensures.found.1 }) (record { is = c.in_ok-parent.ensures.found }) (record { is = c.in_ok-to-3.ensures.found.1 }) c.in_ok-all.ensures.reads.0 (record { is = c.in_ok-to-4.ensures.found.1 }) c.in_ok-end.ensures.found c.span.ensures.where_they_lie c.span-2.ensures.where_they_lie (omega arith) (omega arith) (omega arith) (omega arith) c.count-2.ensures.counted c.count.ensures.counted }
