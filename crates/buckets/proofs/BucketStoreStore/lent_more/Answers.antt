use Rattle.std.proofs.Common.{◌≤◌, length, arith}
use Rattle.buckets.proofs.Storing.{holds-length, holds-pairs, holds-grown, inside-wider}
use Rattle.buckets.proofs.BucketStoreStore.lent_more.Goals as goal

pub returns : goal.returns
returns c =
    let s = c.args.self.now in
    let es = s.entries.now in
    let many = length s.chains.now in
    let fit : s.len ≤ length es = omega (arith, s.filled, s.entered) in
    record {
      limits = (s.tables.limit, s.limit);
      bounded = λ m T h. (omega (arith, holds-length es s.len fit many s.tables.made m T h, s.tables.counted), omega (arith, holds-pairs es s.len fit many s.tables.made m T h, s.filled));
      grows = holds-grown es many s.len s.tables.made;
      wider = inside-wider es s.len;
    }
