use Rattle.std.proofs.Common.{sym}
use Rattle.std.proofs.lemmas.Result.{err_from_is_err_and}
use Rattle.text.specs.Memory.{memory_of}
use Rattle.stack.specs.Held.{held}
use Rattle.list.proofs.Listing.{holds-made, holds-unmade, holds-found, holds-none}
use Rattle.list.proofs.ListStoreStore.read.Goals as goal

pub returns-in_err-check-clause-holds : goal.returns-in_err-check-clause-holds
returns-in_err-check-clause-holds c =
    let s = c.args.self.now in
    let p = err_from_is_err_and c.from_residual.result c.from_residual.ensures.1 in
    rw p.1 (λ T h. holds-unmade (held s.pairs) s.tables.made (memory_of c.args.bytes) T h c.args.key.location.0 c.in_err-check.ensures.made)

pub returns-in-Some-clause-holds : goal.returns-in-Some-clause-holds
returns-in-Some-clause-holds c = λ T h.
    let s = c.args.self.now in
    let m = memory_of c.args.bytes in
    let at = c.in-Some.ensures in
    rw c.items.ensures
    (holds-made (held s.pairs) s.tables.made m T h c.args.key.location.0 c.in_ok-check.ensures.made, sym (holds-found (held s.pairs) s.tables.made m T h c.args.key c.in-Some.i _ at.first at.within))

pub returns-in-None-clause-holds : goal.returns-in-None-clause-holds
returns-in-None-clause-holds c = λ T h.
    let s = c.args.self.now in
    let m = memory_of c.args.bytes in
    (holds-made (held s.pairs) s.tables.made m T h c.args.key.location.0 c.in_ok-check.ensures.made, sym (holds-none (held s.pairs) s.tables.made m T h c.args.key c.in-None.ensures.first))
