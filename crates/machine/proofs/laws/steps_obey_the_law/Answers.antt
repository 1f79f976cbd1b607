use Rattle.machine.proofs.Onward.{determined, leads-onward, ends-without, runs_grow}
use Rattle.machine.proofs.laws.steps_obey_the_law.Goals as goal

pub returns : goal.returns
returns c = record { law = record { determined = determined; leads-onward = leads-onward; ends-without = ends-without; runs_grow = runs_grow } }
