use Rattle.std.proofs.Common.{◌≡◌, suc, ◌-◌, [], refl, ap, inl, inr, arith}
use Rattle.machine.specs.Operands.{values_from}
use Rattle.operands.specs.Slots.{registers_of}
use Rattle.calls.proofs.NewFrame.{passes-set, passes-unset, passes-past}
use Rattle.calls.proofs.passed.Passed.places.Goals as goal

pub returns-then-self : goal.returns-then-self
unfolding values_from registers_of
returns-then-self c =
    let a = c.args in
    let e : suc a.self.last.0 - a.self.first.0 ≡ 0 = omega arith in
    record {
      passed = λ m. ([], ap (values_from (registers_of m a.registers.now) a.self.first.0) e, refl, refl);
      within = (omega arith, omega arith);
    }

pub returns-in-Some-clause-passed : goal.returns-in-Some-clause-passed
returns-in-Some-clause-passed c =
    let a = c.args in
    let x = c.in-Some.ensures.lookup in
    λ m. passes-set m a.registers.now a.self.first.0 a.self.last.0 _ x.0.0 x.0.1 x.0.2 c.if-all_set.ensures

pub returns-in_default-clause-passed : goal.returns-in_default-clause-passed
returns-in_default-clause-passed c =
    let a = c.args in
    let x = c.in-Some.ensures.lookup in
    λ m. passes-unset m a.registers.now a.self.first.0 a.self.last.0 _ x.0.0 x.0.1 x.0.2 c.if-all_set.ensures

pub returns-in_default-2-clause-passed : goal.returns-in_default-2-clause-passed
returns-in_default-2-clause-passed c =
    let a = c.args in
    let x = rw c.in_default.is at c.get.ensures.lookup in
    λ m. passes-past m a.registers.now a.self.first.0 a.self.last.0 (omega arith) (elim x.0 [ inl l ↦ omega arith | inr l ↦ omega arith ])
