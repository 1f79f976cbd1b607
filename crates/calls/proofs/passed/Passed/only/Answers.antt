use Rattle.std.proofs.Common.{refl}
use Rattle.std.proofs.lemmas.Result.{err_from_is_err_and}
use Rattle.machine.specs.Builtin.{one}
use Rattle.operands.specs.Slots.{registers_of}
use Rattle.calls.proofs.Arguments.{nowhere, only_one, not-one, first-missing, held-there}
use Rattle.calls.proofs.passed.Passed.only.Goals as goal

pub returns-in_err-v : goal.returns-in_err-v
returns-in_err-v c =
    let p = err_from_is_err_and c.from_residual.result c.from_residual.ensures.1 in
    let xs = c.args.registers.now in
    rw (p.1, p.2)
    (record {
      held = λ m. first-missing (registers_of m xs) c.args.self.first.0 c.args.self.last.0 one refl _ (c.in_err-v.ensures.held m);
      within = λ u h. tt;
      there = tt;
    })

pub returns-then-self : goal.returns-then-self
returns-then-self c =
    let xs = c.args.registers.now in
    let v = c.in_ok-v.ensures in
    record {
      held = λ m. only_one (registers_of m xs) c.args.self.first.0 c.args.self.last.0 _ (v.held m) c.if-self.true;
      within = λ u h. v.within u h;
      there = held-there nowhere xs c.args.self.first.0 _ (v.held nowhere);
    }

pub returns-else-self : goal.returns-else-self
returns-else-self c =
    let xs = c.args.registers.now in
    record {
      held = λ m. not-one (registers_of m xs) c.args.self.first.0 c.args.self.last.0 c.if-self.false;
      within = λ u h. tt;
      there = tt;
    }
