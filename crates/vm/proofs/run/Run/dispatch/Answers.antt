use Rattle.std.proofs.Common.{ap}
use Rattle.text.specs.Memory.{memory_of}
use Rattle.machine.specs.Instr.{instr}
use Rattle.operands.specs.Globals.{globals_of}
use Rattle.effects.specs.Spending.{effects_of}
use Rattle.calls.specs.Calling.{world_in}
use Rattle.vm.specs.Standing.{lent, content_of, memory_at}
use Rattle.vm.proofs.Standing.{call-does, return-does, halt-does, stay-does, staying}
use Rattle.vm.proofs.run.Run.dispatch.Goals as goal

pub returns-in-Call-clause-done : goal.returns-in-Call-clause-done
returns-in-Call-clause-done g c =
    let a = c.args in
    let l = lent a.code a.self.now in
    let law = c.lent_more.ensures in
    λ P L m s k.
    call-does g.S.Store a.store.now l P L m s law.grows law.wider (instr (memory_at l) a.i) _ _ _ c.call.result _ _ (ap (instr (memory_at l)) c.in-Call.is)
    (c.call.ensures.called s.tables (globals_of (memory_at l) a.self.now.globals) s.live-within)

pub returns-in-Ret-clause-done : goal.returns-in-Ret-clause-done
returns-in-Ret-clause-done g c =
    let a = c.args in
    let l = lent a.code a.self.now in
    λ P L m s k.
    return-does g.S.Store a.store.now l P L m s (instr (memory_at l) a.i) _ c.give_back.result _ (ap (instr (memory_at l)) c.in-Ret.is)
    (c.give_back.ensures.left (memory_at l) (world_in s.tables (globals_of (memory_at l) a.self.now.globals) (content_of l))) (c.give_back.ensures.within a.self.now.spent.strings.used s.live-within)

pub returns-in-Halt-clause-done : goal.returns-in-Halt-clause-done
returns-in-Halt-clause-done g c =
    let a = c.args in
    let l = lent a.code a.self.now in
    λ P L m s k.
    halt-does g.S.Store a.store.now l P L m s (instr (memory_at l) a.i) _ _ (ap (instr (memory_at l)) c.in-Halt.is)
    (c.halt.ensures (memory_at l) (world_in s.tables (globals_of (memory_at l) a.self.now.globals) (content_of l)))

pub returns-in_default-clause-done : goal.returns-in_default-clause-done
returns-in_default-clause-done g c =
    let a = c.args in
    let l = lent a.code a.self.now in
    let e = c.stay.ensures in
    let n = memory_of c.with-bytes.result in
    λ P L m s k.
    stay-does g.S.Store a.store.now l P L m s n c.with-bytes.ensures.memory c.stay.new.store a.i c.stay.result _ _ e.space
    (e.stayed P (effects_of a.self.now.spent) s.tables (staying n a.i c.in_default.not-Call c.in_default.not-Ret c.in_default.not-Halt))
    (e.within a.self.now.spent.strings.used s.live-within s.globals-within s.store-within k)
