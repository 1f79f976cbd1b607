use Rattle.std.proofs.Common.{sym, refl, subst, arith}
use Rattle.std.proofs.lemmas.Result.{err_from_is_err_and}
use Rattle.code.specs.Programs.{program_of}
use Rattle.operands.specs.Slots.{Within}
use Rattle.calls.specs.Frames.{waiting}
use Rattle.vm.proofs.Frames.{return-with, return-without, moved_as}
use Rattle.vm.proofs.dispatch.give_back.Goals as goal

pub returns-in_err-v-clause-left : goal.returns-in_err-v-clause-left
returns-in_err-v-clause-left c =
    let p = err_from_is_err_and c.from_residual.result c.from_residual.ensures.1 in
    let a = c.args in
    rw (p.1, p.2) (λ m W. (return-without m a.frames.now W a.a.0 _ c.current.ensures.window (program_of m a.code.sealed.now a.code.records.now) _ (c.in_err-v.ensures.held m), refl))

pub returns-clause-left : goal.returns-clause-left
returns-clause-left c =
    let a = c.args in
    λ m W.
    moved_as m W _ _ c.leave.result a.frames.now c.leave.new.self
    (return-with m a.frames.now W a.a.0 _ c.current.ensures.window (program_of m a.code.sealed.now a.code.records.now) _ (c.in_ok-v.ensures.held m)) (c.leave.ensures.left m W)

pub returns-clause-within : goal.returns-clause-within
returns-clause-within c = λ u h. c.leave.ensures.within u h (c.in_ok-v.ensures.within u (subst (Within u) (sym c.current.ensures.window) (h (waiting c.args.frames.now) (omega arith))))
