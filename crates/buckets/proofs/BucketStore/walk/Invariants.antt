use Rattle.std.proofs.Common.{◌≡◌, ℕ, ◌-◌, ◌<◌, get_or}
use Rattle.text.specs.Memory.{memory_of}
use Rattle.store.specs.Filed.{place_of}
use Rattle.buckets.specs.Chains.{unused, bucket_at}
use Rattle.buckets.proofs.BucketStore.walk.Given as goal

-- the entry is of the bucket, and none of the bucket before it has the key
abbrev pub invariant-loop-chain : goal.invariant-loop-chain
invariant-loop-chain l =
    (l.i < l.self.len) × (bucket_at l.self.entries.now l.i ≡ l.bucket)
    × ((j : ℕ) → (j < l.i) × (bucket_at l.self.entries.now j ≡ l.bucket) × (place_of (memory_of l.bytes) (get_or l.self.entries.now j unused).key ≡ place_of (memory_of l.bytes) l.key) → ⊥)

abbrev pub decreases-loop-chain : goal.decreases-loop-chain
decreases-loop-chain l = l.self.len - l.i
