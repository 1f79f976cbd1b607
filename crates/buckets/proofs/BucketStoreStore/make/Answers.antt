use Rattle.std.proofs.Common.{length, arith}
use Rattle.store.proofs.Counting.{makes}
use Rattle.buckets.specs.Stored.{Holds}
use Rattle.buckets.proofs.Chaining.{fit}
use Rattle.buckets.proofs.Storing.{holds-length, holds-make}
use Rattle.buckets.proofs.BucketStoreStore.make.Goals as goal

pub returns-clause-holds : goal.returns-clause-holds
returns-clause-holds c = λ m T h.
    let s = c.args.self.now in
    let es = s.entries.now in
    let many = length s.chains.now in
    let n = s.tables.made in
    grind (
      arith,
      makes (λ k. Holds es many s.len k m) s.tables.most n c.make.new.self.made c.make.result T
          (holds-length es s.len (fit s) many n m T h) h (holds-make es s.len (fit s) many n m T h) c.make.ensures.made,
    )
