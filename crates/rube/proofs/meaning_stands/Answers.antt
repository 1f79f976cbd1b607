use Rattle.rube.proofs.Clocks.{clock-law}
use Rattle.rube.proofs.meaning_stands.Goals as goal

pub returns : goal.returns
returns c = clock-law
