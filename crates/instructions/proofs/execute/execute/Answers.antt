use Rattle.std.proofs.Common.{sym, refl, subst}
use Rattle.std.proofs.lemmas.Result.{err_from_is_err_and}
use Rattle.text.specs.Memory.{memory_of}
use Rattle.machine.specs.Outcome.{Outcome}
use Rattle.machine.specs.Instr.{instr}
use Rattle.operands.specs.Globals.{globals_of}
use Rattle.operands.specs.Slots.{registers_of, answered}
use Rattle.instructions.specs.Local.{Local, limits, Executed}
use Rattle.instructions.proofs.Local.{local-acts, local-set, local-refused}
use Rattle.instructions.proofs.execute.execute.Goals as goal

pub returns-in_err-set-in-Some-clause-executed : goal.returns-in_err-set-in-Some-clause-executed
returns-in_err-set-in-Some-clause-executed g c =
    let p = err_from_is_err_and c.from_residual.result c.from_residual.ensures.1 in
    let a = c.args in
    let m = memory_of a.bytes in
    let L = limits (g.S.Store.tables a.store.now) (g.S.Store.room a.store.now) in
    let R = registers_of m a.registers.now in
    let G = globals_of m a.globals.now in
    let s = c.in-Some.ensures in
    let b = c.in_err-set-in-Some.ensures in
    rw (p.1, p.2)
    (λ T h n. (
      local-refused L (instr m a.i) a.pc.0 R T G c.in-Some.answer.target.0 (answered m c.in-Some.answer.value) (s.answered T h) _ (b.set m n),
      b.refused,
      refl,
      h,
    ))

pub returns-in_ok-set-in-Some-clause-executed : goal.returns-in_ok-set-in-Some-clause-executed
returns-in_ok-set-in-Some-clause-executed g c =
    let a = c.args in
    let m = memory_of a.bytes in
    let L = limits (g.S.Store.tables a.store.now) (g.S.Store.room a.store.now) in
    let R = registers_of m a.registers.now in
    let G = globals_of m a.globals.now in
    let s = c.in-Some.ensures in
    let b = c.in_ok-set-in-Some.ensures in
    λ T h n. (
      T,
      local-set L (instr m a.i) a.pc.0 R T G c.in-Some.answer.target.0 (answered m c.in-Some.answer.value) (s.answered T h) _ _ c.next.ensures.behind (b.set m n),
      h,
    )

pub returns-in-None-clause-executed : goal.returns-in-None-clause-executed
returns-in-None-clause-executed g c =
    let a = c.args in
    let m = memory_of a.bytes in
    let L = limits (g.S.Store.tables a.store.now) (g.S.Store.room a.store.now) in
    let R = registers_of m a.registers.now in
    let G = globals_of m a.globals.now in
    λ T h n.
    subst
    (λ (x : Outcome Local). Executed m x T c.act.result a.registers.now c.act.new.registers a.globals.now c.act.new.globals (g.S.Store.holds c.act.new.store m))
    (sym (local-acts L (instr m a.i) a.pc.0 R T G (c.in-None.ensures.answered T h)))
    (c.act.ensures.acted T h n)
