use Rattle.std.proofs.Common.{◌≡◌, ℕ, ◌+◌, ◌-◌, ◌≤◌, List, length, Ok, Option, sym, refl, ap, ◌∙◌, subst, arith}
use Rattle.std.proofs.lemmas.List.{length_push}
use Rattle.std.proofs.lemmas.Result.{err_from_is_err_and}
use Rattle.stack.specs.Held.{held, room}
use Rattle.store.specs.declared.value.Value.{Value}
use Rattle.text.specs.Memory.{Memory}
use Rattle.machine.specs.Limits.{registers_per_frame}
use Rattle.operands.specs.Slots.{registers_of}
use Rattle.calls.specs.Applying.{arguments_at}
use Rattle.calls.specs.Passing.{laid, handed, Passes}
use Rattle.calls.specs.Frames.{waiting}
use Rattle.calls.proofs.Windows.{length-window}
use Rattle.calls.proofs.NewFrame.{enter-stuck, enter-full, enter-fits, enter-within}
use Rattle.calls.proofs.Stacked.{pushed}
use Rattle.calls.proofs.frame.Frames.enter.Goals as goal

-- the arguments by the frame's window
here : (m : Memory) (ys zs : List (Option Value)) (first last : ℕ) → ys ≡ zs → arguments_at (registers_of m zs) first last ≡ arguments_at (registers_of m ys) first last
here m ys zs first last e = ap (λ (z : List (Option Value)). arguments_at (registers_of m z) first last) (sym e)

pub returns-in_err-places-clause-entered : goal.returns-in_err-places-clause-entered
returns-in_err-places-clause-entered c =
    let p = err_from_is_err_and c.from_residual.result c.from_residual.ensures.1 in
    let a = c.args in
    let f = a.self.now in
    rw (p.1, p.2)
    (λ m W. (enter-stuck m W f.registers.now (held f.callers) (waiting f) f.running a.function.0 a.passed.first.0 a.passed.last.0 _ (here m _ _ a.passed.first.0 a.passed.last.0 c.current.ensures.window ∙ c.in_err-places.ensures.passed m), refl))

pub returns-then-len-ge-FRAMES-clause-entered : goal.returns-then-len-ge-FRAMES-clause-entered
returns-then-len-ge-FRAMES-clause-entered c =
    let a = c.args in
    let f = a.self.now in
    λ m W.
    let v = c.in_ok-places.ensures.passed m in
    (enter-full m W f.registers.now (held f.callers) (waiting f) f.running a.function.0 a.passed.first.0 a.passed.last.0 v.0 (here m _ _ a.passed.first.0 a.passed.last.0 c.current.ensures.window ∙ v.1) (omega (arith, c.len.ensures, c.if-len-ge-FRAMES.true)), refl)

pub pass-requires : goal.pass-requires
pass-requires c =
    let f = c.args.self.now in
    let w = waiting f in
    let few = c.if-len-ge-FRAMES.false in
    let sized = c.requires.registers in
    let long = ap length c.current.ensures.window ∙ length-window f.registers.now w (omega (arith, c.len.ensures)) in
    let within = c.in_ok-places.ensures.within in
    (within.0, omega (arith, within.1), omega (arith, c.base-base.ensures.place, c.len.ensures))

pub returns-clause-entered : goal.returns-clause-entered
returns-clause-entered c =
    let a = c.args in
    let f = a.self.now in
    let xs = f.registers.now in
    let w = waiting f in
    let few : w + 1 ≤ 31 = omega (arith, c.len.ensures, c.if-len-ge-FRAMES.false) in
    let sized = c.requires.registers in
    let from = c.in_ok-places.places.start in
    let n = c.in_ok-places.places.end - from in
    let within = c.in_ok-places.ensures.within in
    let fit : from + n ≤ registers_per_frame = omega (arith, within.0, within.1, ap length c.current.ensures.window, length-window xs w (omega arith)) in
    let callers = pushed c.push.result (held f.callers) _ f.running (room f.callers) (omega (arith, c.requires.callers)) c.push.ensures.full c.push.ensures.held in
    let ey = c.pass.ensures ∙ ap (λ b. laid xs (b + registers_per_frame) (handed xs (b + from) n)) c.base-base.ensures.place in
    λ m W.
    let v = subst (λ (z : List (Option Value)). Passes m z (arguments_at (registers_of m z) a.passed.first.0 a.passed.last.0) (Ok c.in_ok-places.places)) c.current.ensures.window (c.in_ok-places.ensures.passed m) in
    enter-fits m W xs (held f.callers) w f.running a.function.0 a.passed.first.0 a.passed.last.0 v.0 v.1 from n _ _ _ _ v.2 v.3 fit (omega arith) refl sized ey callers refl refl (ap length callers ∙ length_push (held f.callers) f.running)

pub returns-clause-within : goal.returns-clause-within
returns-clause-within c =
    let a = c.args in
    let f = a.self.now in
    let xs = f.registers.now in
    let w = waiting f in
    let few : w + 1 ≤ 31 = omega (arith, c.len.ensures, c.if-len-ge-FRAMES.false) in
    let sized = c.requires.registers in
    let from = c.in_ok-places.places.start in
    let n = c.in_ok-places.places.end - from in
    let within = c.in_ok-places.ensures.within in
    let fit : from + n ≤ registers_per_frame = omega (arith, within.0, within.1, ap length c.current.ensures.window, length-window xs w (omega arith)) in
    let callers = pushed c.push.result (held f.callers) _ f.running (room f.callers) (omega (arith, c.requires.callers)) c.push.ensures.full c.push.ensures.held in
    let ey = c.pass.ensures ∙ ap (λ b. laid xs (b + registers_per_frame) (handed xs (b + from) n)) c.base-base.ensures.place in
    λ u h k l. enter-within xs w from n fit (omega arith) sized u _ _ k ey (ap length callers ∙ length_push (held f.callers) f.running) h l
