use Rattle.std.proofs.Common.{arith}
use Rattle.correctness.proofs.Bounded.{code-law}
use Rattle.correctness.proofs.code_bound.Goals as goal

pub returns : goal.returns
returns c = record { the_bound = λ P e h i j k. omega arith; code_fits = (code-law, code-law) }
