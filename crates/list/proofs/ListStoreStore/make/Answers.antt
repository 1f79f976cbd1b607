use Rattle.std.proofs.Common.{arith}
use Rattle.stack.specs.Held.{held}
use Rattle.store.proofs.Counting.{makes}
use Rattle.list.specs.Listed.{Holds}
use Rattle.list.proofs.Listing.{holds-length, holds-make}
use Rattle.list.proofs.ListStoreStore.make.Goals as goal

pub returns-clause-holds : goal.returns-clause-holds
returns-clause-holds c = λ m T h.
    let s = c.args.self.now in
    let ps = held s.pairs in
    let n = s.tables.made in
    grind (arith, makes (λ k. Holds ps k m) s.tables.most n c.make.new.self.made c.make.result T (holds-length ps n m T h) h (holds-make ps n m T h) c.make.ensures.made)
