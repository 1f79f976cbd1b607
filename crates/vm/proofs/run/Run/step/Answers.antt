use Rattle.vm.proofs.Runs.{step-ended}
use Rattle.vm.proofs.run.Run.step.Goals as goal

pub returns-clause-stepped : goal.returns-clause-stepped
returns-clause-stepped g c = λ P L m s. step-ended c.advance.result _ _ m _ c.err.ensures.value (c.advance.ensures.stepped P L m s)
