use Rattle.std.proofs.Common.{refl, ◌∙◌}
use Rattle.std.proofs.lemmas.Result.{err_from_is_err_and}
use Rattle.effects.specs.Spending.{effects_of}
use Rattle.operands.specs.Slots.{registers_of}
use Rattle.calls.specs.Applying.{memory_in}
use Rattle.calls.proofs.Applied.{to-s-without, to-s-with, spells-applied, spells-refused, answers-as}
use Rattle.calls.proofs.builtins.to_string.Goals as goal

pub returns-in_err-v-clause-applied : goal.returns-in_err-v-clause-applied
returns-in_err-v-clause-applied c =
    let p = err_from_is_err_and c.from_residual.result c.from_residual.ensures.1 in
    let a = c.args in
    let m = memory_in a.literals a.spent.now in
    rw (p.1, p.2) (λ h. (to-s-without (registers_of m a.registers.now) a.passed.first.0 a.passed.last.0 (effects_of a.spent.now) _ (c.in_err-v.ensures.held m), refl))

pub returns-in_err-s-clause-applied : goal.returns-in_err-s-clause-applied
returns-in_err-s-clause-applied c =
    let p = err_from_is_err_and c.from_residual-in_err-s.result c.from_residual-in_err-s.ensures.1 in
    let a = c.args in
    let m = memory_in a.literals a.spent.now in
    rw (p.1, p.2)
    (λ h.
    let z = spells-refused _ a.spent.now _ _ (c.in_err-s.ensures.made m h) in
    (to-s-with (registers_of m a.registers.now) a.passed.first.0 a.passed.last.0 (effects_of a.spent.now) _ (c.in_ok-v.ensures.held m) ∙ z.0, z.1))

pub returns-clause-applied : goal.returns-clause-applied
returns-clause-applied c =
    let a = c.args in
    let m = memory_in a.literals a.spent.now in
    λ h.
    answers-as a.literals _ _ _ a.spent.now _ (to-s-with (registers_of m a.registers.now) a.passed.first.0 a.passed.last.0 (effects_of a.spent.now) _ (c.in_ok-v.ensures.held m))
    (spells-applied a.literals _ a.spent.now _ _ h (c.in_ok-s.ensures.made m h))
