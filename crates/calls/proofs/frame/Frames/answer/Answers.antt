use Rattle.std.proofs.Common.{◌≡◌, ℕ, ◌+◌, ◌*◌, ◌<◌, ◌≤◌, List, length, set, Some, Option, sym, refl, ap, ◌∙◌, subst, arith}
use Rattle.std.proofs.lemmas.Result.{err_from_is_err_and}
use Rattle.text.specs.Memory.{Memory}
use Rattle.store.specs.declared.value.Value.{Value}
use Rattle.machine.specs.declared.builtin.Builtin.{Builtin}
use Rattle.machine.specs.Limits.{registers_per_frame}
use Rattle.machine.specs.Effects.{Effects}
use Rattle.effects.specs.Spending.{effects_of}
use Rattle.operands.specs.Slots.{registers_of, Within}
use Rattle.calls.specs.Applying.{apply_at}
use Rattle.calls.specs.Frames.{waiting}
use Rattle.calls.specs.Calling.{content, memory_of}
use Rattle.calls.proofs.Applied.{answers-as}
use Rattle.calls.proofs.Windows.{length-window}
use Rattle.calls.proofs.Called.{answer-ends, answer-goes}
use Rattle.calls.proofs.frame.Frames.answer.Goals as goal

-- the frame's registers by their window
here : (k : Builtin) (m : Memory) (ys zs : List (Option Value)) (first last : ℕ) (o : Effects) → ys ≡ zs → apply_at k (registers_of m zs) first last o ≡ apply_at k (registers_of m ys) first last o
here k m ys zs first last o e = ap (λ (z : List (Option Value)). apply_at k (registers_of m z) first last o) (sym e)

pub returns-in_err-v-clause-called : goal.returns-in_err-v-clause-called
returns-in_err-v-clause-called c =
    let p = err_from_is_err_and c.from_residual.result c.from_residual.ensures.1 in
    let a = c.args in
    let b = content a.literals a.spent.now a.self.now in
    rw (p.1, p.2)
    (λ g T G live.
    let h = c.in_err-v.ensures.applied c.requires.roomy.strings (subst (Within a.spent.now.strings.used) (sym c.current.ensures.window) (live (waiting a.self.now) (omega arith))) in (
      answer-ends a.builtin g a.passed.first.0 a.passed.last.0 T G b _ (here a.builtin (memory_of b) _ _ a.passed.first.0 a.passed.last.0 (effects_of a.spent.now) c.current.ensures.window ∙ h.0),
      λ i. content a.literals (h.1 i) a.self.now,
    ))

pub bounds-self-base : goal.bounds-self-base
bounds-self-base c =
    let f = c.args.self.now in
    let sized = c.requires.roomy.sized.registers in
    let few = f.few in
    let long = ap length c.current.ensures.window ∙ length-window f.registers.now (waiting f) (omega arith) in
    omega (arith, c.in_ok-v.ensures.there, c.base-base.ensures.place)

pub returns-clause-called : goal.returns-clause-called
returns-clause-called c =
    let a = c.args in
    let f = a.self.now in
    let b = content a.literals a.spent.now f in
    let sized = c.requires.roomy.sized.registers in
    let few = f.few in
    let fit : registers_per_frame * waiting f + registers_per_frame ≤ length f.registers.now = omega arith in
    let low : a.passed.first.0 < registers_per_frame = omega (arith, c.in_ok-v.ensures.there, ap length c.current.ensures.window, length-window f.registers.now (waiting f) fit) in
    λ g T G live.
    let h = c.in_ok-v.ensures.applied c.requires.roomy.strings (subst (Within a.spent.now.strings.used) (sym c.current.ensures.window) (live (waiting f) (omega arith))) in
    answer-goes a.builtin g a.passed.first.0 a.passed.last.0 T G b c.in_ok-v.v c.apply.new.spent _
    (answers-as a.literals _ _ _ a.spent.now _ (here a.builtin (memory_of b) _ _ a.passed.first.0 a.passed.last.0 (effects_of a.spent.now) c.current.ensures.window) h)
    (ap (λ n. set f.registers.now (n + a.passed.first.0) (Some c.in_ok-v.v)) c.base-base.ensures.place) low fit refl refl c.next-self.ensures.behind refl live
