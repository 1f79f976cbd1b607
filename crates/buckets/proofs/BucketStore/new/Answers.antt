use Rattle.buckets.proofs.Storing.{holds-nothing}
use Rattle.buckets.proofs.BucketStore.new.Goals as goal

pub returns-clause-holds : goal.returns-clause-holds
returns-clause-holds c = λ m. rw c.new.ensures.none (holds-nothing _ _ m)
