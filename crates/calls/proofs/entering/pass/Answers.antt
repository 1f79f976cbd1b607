use Rattle.std.proofs.Common.{◌+◌, ◌-◌, replicate, None, Option, ap, ◌∙◌, arith, rules}
use Rattle.std.proofs.lemmas.List.{length-drop, length-take-le}
use Rattle.store.specs.declared.value.Value.{Value}
use Rattle.calls.proofs.Laying.{passed-laid}
use Rattle.calls.proofs.entering.pass.Goals as goal

pub returns : goal.returns
returns c =
    let a = c.args in
    let to = a.base + 128 in
    let n = a.places.end - a.places.start in
    let none : Option Value = None in
    let rest = to + 128 - (to + n) in
    let long = c.copy_within.ensures.len in
    let d = length-drop (to + n) c.copy_within.new.self in
    let k = length-take-le rest _ (omega (arith, d, long)) in
    passed-laid a.registers.now c.copy_within.new.self c.fill.new.self to (a.base + a.places.start) (a.base + a.places.end) n rest (omega arith) (omega arith) (omega arith) (omega arith) (omega arith) c.copy_within.ensures.after
    (c.fill.ensures.after (λ y h. search rules) ∙ ap (λ i. replicate i none) k)
