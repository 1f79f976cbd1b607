use Rattle.correctness.proofs.Bounded.{text-law}
use Rattle.correctness.proofs.texts_are_spelled.Goals as goal

pub returns : goal.returns
returns c = text-law
