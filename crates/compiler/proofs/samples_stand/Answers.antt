use Rattle.compiler.proofs.Samples.{runs-hold, meanings-hold, more-runs-hold}
use Rattle.compiler.proofs.samples_stand.Goals as goal

pub returns : goal.returns
returns c = (runs-hold, meanings-hold, more-runs-hold)
