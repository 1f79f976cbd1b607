use Rattle.std.proofs.Common.{◌≡◌, Some, None, Option, refl}
use Rattle.machine.specs.declared.ending.Ending.TheVariants.{Stuck}
use Rattle.machine.specs.Outcome.{need}
use Rattle.store.specs.Answers.{meant}
use Rattle.store.specs.declared.value.Value.{Value}
use Rattle.text.specs.Memory.{Memory}
use Rattle.operands.specs.Slots.{answered}
use Rattle.operands.proofs.Slots.{value-of-slot}
use Rattle.operands.proofs.registers.value.Goals as goal
use Rattle.std.specs.Option.{ok_or}

-- nothing leaves the run stuck
needed : (m : Memory) (o : Option Value) → answered m (ok_or o Stuck) ≡ need (meant m o)
needed m None = refl
needed m (Some v) = refl

pub returns-clause-held : goal.returns-clause-held
returns-clause-held c = λ m. rw c.ok_or.ensures.value (value-of-slot m c.args.registers.now c.args.a.0 _ _ (needed m _) c.slot.ensures.held)
