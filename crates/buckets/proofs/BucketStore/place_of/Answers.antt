use Rattle.std.proofs.Common.{◌≡◌, ℕ, length, take, ap, arith}
use Rattle.text.specs.Memory.{memory_of}
use Rattle.text.specs.First.{first_place}
use Rattle.store.specs.Filed.{place_of, same_place}
use Rattle.buckets.specs.declared.Chained.{Chained}
use Rattle.buckets.proofs.Storing.{first-of-all}
use Rattle.buckets.proofs.BucketStore.place_of.Goals as goal

pub returns-then-self-eq0 : goal.returns-then-self-eq0
unfolding first_place
returns-then-self-eq0 c =
    let s = c.args.self.now in
    let m = memory_of c.args.bytes in
    let none : 0 ≡ s.len = omega arith in
    record {
      first = λ _. ap (λ (n : ℕ). first_place (λ (e : Chained). same_place (place_of m e.key) (place_of m c.args.key)) (take n s.entries.now)) none;
      within = tt;
    }

pub returns : goal.returns
returns c =
    let s = c.args.self.now in
    let m = memory_of c.args.bytes in
    record {
      first = λ placed. first-of-all (length s.chains.now) m (place_of m c.args.key) c.bucket_of-bucket.result c.bucket_of-bucket.ensures.value (take s.len s.entries.now) placed c.walk.result c.walk.ensures.first;
      within = c.walk.ensures.within;
    }
