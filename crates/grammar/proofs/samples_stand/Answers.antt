use Rattle.grammar.proofs.Samples.{samples}
use Rattle.grammar.proofs.samples_stand.Goals as goal

pub returns : goal.returns
returns c = samples
