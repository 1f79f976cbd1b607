use Rattle.std.proofs.Common.{arith}
use Rattle.std.proofs.lemmas.List.{length-take-le}
use Rattle.stack.specs.Held.{held}
use Rattle.list.proofs.Listing.{holds-length, holds-pairs, holds-grown, inside-wider}
use Rattle.list.proofs.ListStoreStore.lent_more.Goals as goal

pub returns-clause-bounded : goal.returns-clause-bounded
returns-clause-bounded c = λ m T h.
    let s = c.args.self.now in
    let ps = held s.pairs in (
      omega (arith, holds-length ps s.tables.made m T h, s.tables.counted),
      omega (arith, holds-pairs ps s.tables.made m T h, length-take-le s.pairs.len s.pairs.items.now s.pairs.fits, s.pairs.fits),
    )

pub returns-clause-grows : goal.returns-clause-grows
returns-clause-grows c = holds-grown (held c.args.self.now.pairs) c.args.self.now.tables.made

pub returns-clause-wider : goal.returns-clause-wider
returns-clause-wider c = inside-wider (held c.args.self.now.pairs)
