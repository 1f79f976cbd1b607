use Rattle.std.proofs.Common.{arith}
use Rattle.std.proofs.lemmas.List.{length-take-le}
use lib.Seq.{take-set-lt}
use Rattle.stack.proofs.Stack.set.Goals as goal

pub returns-clause-held : goal.returns-clause-held
returns-clause-held g c =
    let s = c.args.self.now in
    take-set-lt s.len s.items.now c.args.i c.args.x (omega (arith, c.requires, length-take-le s.len s.items.now s.fits))
