use Rattle.std.proofs.Common.{◌≡◌, ℕ, suc, ◌+◌, ◌*◌, List, length, get_or, set, Some, sym, refl, ap, ◌∙◌, subst, arith}
use Rattle.std.proofs.lemmas.Result.{err_from_is_err_and}
use Rattle.stack.specs.Held.{held, front}
use Rattle.machine.specs.Limits.{registers_per_frame}
use Rattle.machine.specs.Instr.{Program, fetch}
use Rattle.code.specs.Programs.{program_of}
use Rattle.calls.specs.declared.frame.Frame.{Frame}
use Rattle.calls.specs.Frames.{waiting, no_frame, target_of, LiveIn}
use Rattle.calls.proofs.Stacked.{one-less, latest, popped, below, kept}
use Rattle.calls.proofs.Writing.{written-within, leave-last, leave-stuck, leave-nowhere, leave-goes}
use Rattle.calls.proofs.frame.Frames.leave.Goals as goal

-- the call of a caller that is the latest
call-of : (P : Program) (fs : List Frame) (k : ℕ) (f : Frame) → f ≡ get_or fs k no_frame → target_of (fetch P f.function.0 f.pc.0) ≡ target_of (fetch P (get_or fs k no_frame).function.0 (get_or fs k no_frame).pc.0)
call-of P fs k f e = ap (λ (g : Frame). target_of (fetch P g.function.0 g.pc.0)) e

pub returns-in_default-clause-left : goal.returns-in_default-clause-left
returns-in_default-clause-left c =
    let a = c.args in
    let f = a.self.now in
    λ m W. (leave-last (program_of m a.code.sealed.now a.code.records.now) m W f.registers.now (held f.callers) (waiting f) a.answer (ap length c.in_default.ensures), refl)

pub returns-in_err-to-clause-left : goal.returns-in_err-to-clause-left
returns-in_err-to-clause-left c =
    let p = err_from_is_err_and c.from_residual.result c.from_residual.ensures.1 in
    let a = c.args in
    let f = a.self.now in
    let fs = held f.callers in
    let x = c.in-Some.caller in
    let top = c.in-Some.ensures in
    rw (p.1, p.2)
    (λ m W. (leave-stuck (program_of m a.code.sealed.now a.code.records.now) m W f.registers.now fs (waiting f) a.answer (length (front fs)) (one-less fs x top) _ (c.in_err-to.ensures.of_the_call m ∙ call-of (program_of m a.code.sealed.now a.code.records.now) fs (length (front fs)) x (latest fs x top)), refl))

pub returns-then-to-ge-REGISTERS-clause-left : goal.returns-then-to-ge-REGISTERS-clause-left
returns-then-to-ge-REGISTERS-clause-left c =
    let a = c.args in
    let f = a.self.now in
    let fs = held f.callers in
    let x = c.in-Some.caller in
    let top = c.in-Some.ensures in
    λ m W. (leave-nowhere (program_of m a.code.sealed.now a.code.records.now) m W f.registers.now fs (waiting f) a.answer (length (front fs)) (one-less fs x top) _ (c.in_ok-to.ensures.of_the_call m ∙ call-of (program_of m a.code.sealed.now a.code.records.now) fs (length (front fs)) x (latest fs x top)) c.if-to-ge-REGISTERS.true, refl)

pub returns-clause-left : goal.returns-clause-left
returns-clause-left c =
    let a = c.args in
    let f = a.self.now in
    let fs = held f.callers in
    let xs = f.registers.now in
    let x = c.in-Some.caller in
    let top = c.in-Some.ensures in
    let k = length (front fs) in
    let few = f.few in
    let less = one-less fs x top in
    let sized = c.requires.registers in
    let gs = popped fs x top c.pop.result _ c.pop.ensures.held in
    let base = c.base-base.ensures.place ∙ ap (λ (z : List Frame). registers_per_frame * length z) gs in
    λ m W. leave-goes (program_of m a.code.sealed.now a.code.records.now) m W xs fs (waiting f) a.answer k less _ (c.in_ok-to.ensures.of_the_call m ∙ call-of (program_of m a.code.sealed.now a.code.records.now) fs k x (latest fs x top)) _ _ _ _ c.if-to-ge-REGISTERS.false (omega arith) (ap (λ b. set xs (b + c.in_ok-to.field-0.0) (Some a.answer)) base) (ap (λ (f : Frame). f.function.0) (latest fs x top)) (c.next.ensures.behind ∙ ap (λ (f : Frame). suc f.pc.0) (latest fs x top)) (ap length gs) (below fs x top _ gs)

pub returns-clause-callers_kept : goal.returns-clause-callers_kept
returns-clause-callers_kept c = kept c.args.self.now.callers c.pop.new.self c.pop.result c.pop.ensures.held c.pop.ensures.beyond

pub returns-clause-within : goal.returns-clause-within
returns-clause-within c =
    let a = c.args in
    let f = a.self.now in
    let fs = held f.callers in
    let xs = f.registers.now in
    let x = c.in-Some.caller in
    let top = c.in-Some.ensures in
    let k = length (front fs) in
    let few = f.few in
    let less = one-less fs x top in
    let sized = c.requires.registers in
    let gs = popped fs x top c.pop.result _ c.pop.ensures.held in
    let base = c.base-base.ensures.place ∙ ap (λ (z : List Frame). registers_per_frame * length z) gs in
    λ u h e. subst (LiveIn u _) (sym (ap length gs)) (written-within xs _ k _ a.answer (ap (λ b. set xs (b + c.in_ok-to.field-0.0) (Some a.answer)) base) c.if-to-ge-REGISTERS.false (omega arith) u (λ j l. h j (omega arith)) e)
