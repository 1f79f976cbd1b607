use Rattle.std.proofs.Common.{refl, arith}
use Rattle.std.proofs.lemmas.Result.{err_from_is_err_and}
use Rattle.machine.specs.Builtin.{two}
use Rattle.operands.specs.Slots.{registers_of}
use Rattle.calls.proofs.Arguments.{nowhere, both-two, not-two, first-missing, last-missing, held-there}
use Rattle.calls.proofs.passed.Passed.both.Goals as goal

pub returns-in_err-v : goal.returns-in_err-v
returns-in_err-v c =
    let p = err_from_is_err_and c.from_residual.result c.from_residual.ensures.1 in
    let xs = c.args.registers.now in
    rw (p.1, p.2)
    (record {
      held = λ m. first-missing (registers_of m xs) c.args.self.first.0 c.args.self.last.0 two refl _ (c.in_err-v.ensures.held m);
      within = λ u h. tt;
      there = tt;
    })

pub returns-in_err-w : goal.returns-in_err-w
returns-in_err-w c =
    let p = err_from_is_err_and c.from_residual-in_err-w.result c.from_residual-in_err-w.ensures.1 in
    let xs = c.args.registers.now in
    rw (p.1, p.2)
    (record {
      held = λ m. last-missing (registers_of m xs) c.args.self.first.0 c.args.self.last.0 _ (c.in_ok-v.ensures.held m) _ (c.in_err-w.ensures.held m);
      within = λ u h. tt;
      there = tt;
    })

pub returns-then-self : goal.returns-then-self
returns-then-self c =
    let xs = c.args.registers.now in
    let v = c.in_ok-v.ensures in
    let w = c.in_ok-w.ensures in
    record {
      held = λ m. both-two (registers_of m xs) c.args.self.first.0 c.args.self.last.0 _ _ (v.held m) (w.held m) (omega arith);
      within = λ u h. (v.within u h, w.within u h);
      there = held-there nowhere xs c.args.self.first.0 _ (v.held nowhere);
    }

pub returns-else-self : goal.returns-else-self
returns-else-self c =
    let xs = c.args.registers.now in
    record {
      held = λ m. not-two (registers_of m xs) c.args.self.first.0 c.args.self.last.0 (λ e. c.if-self.false (omega arith));
      within = λ u h. tt;
      there = tt;
    }
