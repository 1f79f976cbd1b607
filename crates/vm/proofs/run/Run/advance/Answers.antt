use Rattle.vm.specs.Standing.{lent, memory_at}
use Rattle.vm.proofs.Stepping.{some-steps, none-ends, constant-within}
use Rattle.vm.proofs.run.Run.advance.Goals as goal

pub returns-clause-stepped : goal.returns-clause-stepped
returns-clause-stepped g c =
    let a = c.args in
    let r = a.self.now in
    let l = lent a.code r in
    let f = c.in-Some.ensures in
    λ P L m s.
    some-steps g.S.Store a.store.now l P L m s c.in-Some.record c.dispatch.result _ (f.of_the_program (memory_at l))
    (c.dispatch.ensures.done P L m s (constant-within r.spent.strings.used a.code.sealed.now a.code.records.now _ _ c.in-Some.record s.code-within f.in_the_table))

pub returns-in_default-clause-stepped : goal.returns-in_default-clause-stepped
returns-in_default-clause-stepped g c =
    let a = c.args in
    let l = lent a.code a.self.now in
    λ P L m s. none-ends g.S.Store a.store.now l P L m s (c.in_default.ensures.of_the_program (memory_at l))
