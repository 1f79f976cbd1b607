use Rattle.grammar.proofs.Whole.{law}
use Rattle.grammar.proofs.grammar_stands.Goals as goal

pub returns : goal.returns
returns c = law
