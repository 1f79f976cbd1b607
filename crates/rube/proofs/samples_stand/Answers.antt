use Rattle.rube.proofs.Samples.{samples-hold}
use Rattle.rube.proofs.samples_stand.Goals as goal

pub returns : goal.returns
returns c = samples-hold
