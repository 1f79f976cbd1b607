use Rattle.std.proofs.Common.{refl, inl, inr, arith}
use Rattle.effects.proofs.Spends.{charge-fits, charge-full}
use Rattle.effects.proofs.strings.Strings.add.Goals as goal

pub returns-then-self-ge-STRINGS-clause-charged : goal.returns-then-self-ge-STRINGS-clause-charged
returns-then-self-ge-STRINGS-clause-charged c = λ h.
    let p = c.args.self.now in
    (λ o. charge-full c.args.n _ (λ a. elim c.then-self-ge-STRINGS.either [ inl l ↦ omega arith | inr l ↦ (let k = l.1 in omega (arith, c.min.ensures, p.few)) ]), refl)

pub returns-clause-charged : goal.returns-clause-charged
returns-clause-charged c = λ h o. charge-fits c.args.n _ (omega arith) (omega (arith, c.min.ensures))
