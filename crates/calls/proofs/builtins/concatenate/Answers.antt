use Rattle.std.proofs.Common.{refl, ap, ◌∙◌, arith}
use Rattle.std.proofs.lemmas.Result.{err_from_is_err_and}
use Rattle.store.specs.Val.{end_of}
use Rattle.effects.specs.Spending.{effects_of}
use Rattle.operands.specs.Slots.{registers_of}
use Rattle.calls.specs.Applying.{memory_in}
use Rattle.calls.proofs.Applied.{concat-without, concat-first, concat-second, concat-of, makes-applied, makes-refused, answers-as}
use Rattle.calls.proofs.builtins.concatenate.Goals as goal

pub returns-in_err-v-clause-applied : goal.returns-in_err-v-clause-applied
returns-in_err-v-clause-applied c =
    let p = err_from_is_err_and c.from_residual.result c.from_residual.ensures.1 in
    let a = c.args in
    let m = memory_in a.literals a.spent.now in
    rw (p.1, p.2) (λ h i. (concat-without (registers_of m a.registers.now) a.passed.first.0 a.passed.last.0 (effects_of a.spent.now) _ (c.in_err-v.ensures.held m), refl))

pub returns-in_err-a-clause-applied : goal.returns-in_err-a-clause-applied
returns-in_err-a-clause-applied c =
    let p = err_from_is_err_and c.from_residual-in_err-a.result c.from_residual-in_err-a.ensures.1 in
    let a = c.args in
    let m = memory_in a.literals a.spent.now in
    rw (p.1, p.2) (λ h i. (concat-first (registers_of m a.registers.now) a.passed.first.0 a.passed.last.0 (effects_of a.spent.now) _ _ (c.in_ok-v.ensures.held m) _ (c.in_err-a.ensures.meant m), refl))

pub returns-in_err-b-clause-applied : goal.returns-in_err-b-clause-applied
returns-in_err-b-clause-applied c =
    let p = err_from_is_err_and c.from_residual-in_err-b.result c.from_residual-in_err-b.ensures.1 in
    let a = c.args in
    let m = memory_in a.literals a.spent.now in
    rw (p.1, p.2) (λ h i. (concat-second (registers_of m a.registers.now) a.passed.first.0 a.passed.last.0 (effects_of a.spent.now) _ _ (c.in_ok-v.ensures.held m) _ (c.in_ok-a.ensures.meant m) _ (c.in_err-b.ensures.meant m), refl))

pub returns-in_err-s-clause-applied : goal.returns-in_err-s-clause-applied
returns-in_err-s-clause-applied c =
    let p = err_from_is_err_and c.from_residual-in_err-s.result c.from_residual-in_err-s.ensures.1 in
    let a = c.args in
    let m = memory_in a.literals a.spent.now in
    rw (p.1, p.2)
    (λ h i.
    let w = c.in_ok-v.ensures.within a.spent.now.strings.used i in
    let x = ap end_of c.in_ok-a.ensures.held in
    let y = ap end_of c.in_ok-b.ensures.held in
    let z = makes-refused _ a.spent.now _ _ (c.in_err-s.ensures.made h (omega arith) (omega arith)) in
    (concat-of (registers_of m a.registers.now) a.passed.first.0 a.passed.last.0 (effects_of a.spent.now) _ _ (c.in_ok-v.ensures.held m) _ (c.in_ok-a.ensures.meant m) _ (c.in_ok-b.ensures.meant m) ∙ z.0, z.1))

pub returns-clause-applied : goal.returns-clause-applied
returns-clause-applied c =
    let a = c.args in
    let m = memory_in a.literals a.spent.now in
    λ h i.
    let w = c.in_ok-v.ensures.within a.spent.now.strings.used i in
    let x = ap end_of c.in_ok-a.ensures.held in
    let y = ap end_of c.in_ok-b.ensures.held in
    answers-as a.literals _ _ _ a.spent.now _ (concat-of (registers_of m a.registers.now) a.passed.first.0 a.passed.last.0 (effects_of a.spent.now) _ _ (c.in_ok-v.ensures.held m) _ (c.in_ok-a.ensures.meant m) _ (c.in_ok-b.ensures.meant m))
    (makes-applied a.literals _ a.spent.now _ _ h (c.in_ok-s.ensures.made h (omega arith) (omega arith)))
