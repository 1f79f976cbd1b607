use Rattle.std.proofs.Common.{Ok, Err, refl, subst}
use Rattle.std.proofs.lemmas.Result.{err_from_is_err_and}
use Rattle.text.specs.Memory.{Memory}
use Rattle.store.specs.Val.{meaning}
use Rattle.machine.specs.Builtin.{shown}
use Rattle.effects.specs.Spending.{effects_of}
use Rattle.operands.specs.Slots.{registers_of}
use Rattle.calls.specs.Applying.{memory_in, Shows}
use Rattle.calls.proofs.Applied.{print-without, print-refused, print-applied}
use Rattle.calls.proofs.builtins.print.Goals as goal

pub returns-in_err-v-clause-applied : goal.returns-in_err-v-clause-applied
returns-in_err-v-clause-applied c =
    let p = err_from_is_err_and c.from_residual.result c.from_residual.ensures.1 in
    let a = c.args in
    let m = memory_in a.literals a.spent.now in
    rw (p.1, p.2) (print-without (registers_of m a.registers.now) a.passed.first.0 a.passed.last.0 (effects_of a.spent.now) _ (c.in_err-v.ensures.held m), refl)

pub returns-in_err-show-clause-applied : goal.returns-in_err-show-clause-applied
returns-in_err-show-clause-applied c =
    let p = err_from_is_err_and c.from_residual-in_err-show.result c.from_residual-in_err-show.ensures.1 in
    let a = c.args in
    let m = memory_in a.literals a.spent.now in
    let s = subst (λ (z : Memory). Shows (shown (meaning z c.in_ok-v.v)) a.spent.now.output (Err c.in_err-show.field-0.0) c.show.new.output) c.with.ensures.memory c.in_err-show.ensures.shown in
    rw (p.1, p.2) (print-refused (registers_of m a.registers.now) a.passed.first.0 a.passed.last.0 (effects_of a.spent.now) _ (c.in_ok-v.ensures.held m) _ (s.0 a.spent.now.strings), λ i. record { strings = a.spent.now.strings; output = s.1 i })

pub returns-clause-applied : goal.returns-clause-applied
returns-clause-applied c =
    let a = c.args in
    let m = memory_in a.literals a.spent.now in
    let s = subst (λ (z : Memory). Shows (shown (meaning z c.in_ok-v.v)) a.spent.now.output (Ok tt) c.show.new.output) c.with.ensures.memory c.in_ok-show.ensures.shown in
    print-applied a.literals (registers_of m a.registers.now) a.passed.first.0 a.passed.last.0 _ a.spent.now c.show.new.output (c.in_ok-v.ensures.held m) s
