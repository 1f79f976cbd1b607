use Rattle.std.proofs.Common.{◌≡◌, List, ◌++◌, length, drop, replicate, None, Option, refl, ap, ◌∙◌, rules}
use Rattle.std.proofs.lemmas.List.{length-take-le}
use Rattle.store.specs.declared.value.Value.{Value}
use Rattle.calls.proofs.NewFrame.{first-begins, first-within}
use Rattle.calls.proofs.frame.Frames.begin.Goals as goal

pub returns-clause-begun : goal.returns-clause-begun
returns-clause-begun c =
    let xs = c.args.self.now.registers.now in
    let none : Option Value = None in
    let unset : c.fill.new.self ≡ replicate 128 none = c.fill.ensures.after (λ y h. search rules) ∙ ap (λ n. replicate n none) (length-take-le 128 xs c.requires.sized) in
    λ m W. first-begins xs _ _ _ c.requires.sized (ap (λ (z : List (Option Value)). z ++ drop 128 xs) unset) refl refl (ap length c.clear.ensures.held) m _ W

pub returns-clause-within : goal.returns-clause-within
returns-clause-within c =
    let xs = c.args.self.now.registers.now in
    let none : Option Value = None in
    let unset : c.fill.new.self ≡ replicate 128 none = c.fill.ensures.after (λ y h. search rules) ∙ ap (λ n. replicate n none) (length-take-le 128 xs c.requires.sized) in
    λ u. first-within xs _ _ _ c.requires.sized (ap (λ (z : List (Option Value)). z ++ drop 128 xs) unset) refl refl (ap length c.clear.ensures.held) u
