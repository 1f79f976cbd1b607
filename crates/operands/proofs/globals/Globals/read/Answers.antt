use Rattle.operands.specs.Globals.{globals_of}
use Rattle.operands.proofs.Naming.{held_found, held_none}
use Rattle.operands.proofs.globals.Globals.read.Goals as goal

pub returns-in_err-i-clause-held : goal.returns-in_err-i-clause-held
unfolding globals_of
returns-in_err-i-clause-held c = λ m. rw c.from_residual.ensures (held_none m c.args.name.0 _ c.in_err-i.ensures.first)

pub returns-clause-held : goal.returns-clause-held
unfolding globals_of
returns-clause-held c = λ m. rw c.deref.ensures.0 (held_found m c.args.name.0 _ c.in_ok-i.i _ c.in_ok-i.ensures.first)
