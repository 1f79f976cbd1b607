use Rattle.std.proofs.Common.{◌≡◌, ℕ, List, Option, refl, ap, ◌∙◌}
use Rattle.std.proofs.lemmas.Result.{err_from_is_err_and}
use Rattle.text.specs.Memory.{Memory}
use Rattle.store.specs.declared.value.Value.{Value}
use Rattle.machine.specs.Operands.{function_at}
use Rattle.operands.specs.Slots.{registers_of}
use Rattle.calls.specs.Calling.{content, memory_of, world_in}
use Rattle.calls.proofs.Called.{call-nothing, call-answers, call_enters, called-as, entered-called}
use Rattle.calls.proofs.frame.Frames.call.Goals as goal

-- the frame's registers by their window
here : (m : Memory) (ys zs : List (Option Value)) (a : ℕ) → ys ≡ zs → function_at (registers_of m ys) a ≡ function_at (registers_of m zs) a
here m ys zs a e = ap (λ (z : List (Option Value)). function_at (registers_of m z) a) e

pub returns-in_err-name-clause-called : goal.returns-in_err-name-clause-called
returns-in_err-name-clause-called c =
    let p = err_from_is_err_and c.from_residual.result c.from_residual.ensures.1 in
    let a = c.args in
    let b = content a.literals a.spent.now a.self.now in
    rw (p.1, p.2)
    (λ T G live. (call-nothing a.a.0 a.passed.first.0 a.passed.last.0 T G b _ (c.in_err-name.ensures.held (memory_of b) ∙ here (memory_of b) _ _ a.a.0 c.current.ensures.window), refl))

pub returns-in-Ok-clause-called : goal.returns-in-Ok-clause-called
returns-in-Ok-clause-called c =
    let a = c.args in
    let b = content a.literals a.spent.now a.self.now in
    let g = c.in_ok-name.name.0 in
    let f = c.in_ok-name.ensures.held (memory_of b) ∙ here (memory_of b) _ _ a.a.0 c.current.ensures.window in
    λ T G live.
    called-as b T G _ _ c.answer.result _
    (call-answers a.a.0 a.passed.first.0 a.passed.last.0 T G b g f c.in-Ok.builtin c.in-Ok.ensures)
    (c.answer.ensures.called g T G live)

pub returns-in-Err-clause-called : goal.returns-in-Err-clause-called
returns-in-Err-clause-called c =
    let a = c.args in
    let b = content a.literals a.spent.now a.self.now in
    let g = c.in_ok-name.name.0 in
    let f = c.in_ok-name.ensures.held (memory_of b) ∙ here (memory_of b) _ _ a.a.0 c.current.ensures.window in
    let n = c.enter.ensures in
    λ T G live.
    called-as b T G _ _ c.enter.result _
    (call_enters a.a.0 a.passed.first.0 a.passed.last.0 T G b g f c.in-Err.ensures)
    (entered-called b T G _ c.enter.result _ (n.entered (memory_of b) (world_in T G b)) (n.within a.spent.now.strings.used live))
