use Rattle.std.proofs.Common.{arith}
use Rattle.correctness.proofs.Whole.{law}
use Rattle.correctness.proofs.step_bound.Goals as goal

pub returns : goal.returns
returns c = record { the_bound = λ P h i. omega arith; rules_stand = (law, law) }
