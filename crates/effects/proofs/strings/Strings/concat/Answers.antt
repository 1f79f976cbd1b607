use Rattle.std.proofs.Common.{◌≡◌, ℕ, ◌+◌, List, ◌++◌, length, MutBor, sym, ap, ◌∙◌, arith}
use Rattle.std.proofs.lemmas.List.{length-append}
use Rattle.std.proofs.lemmas.Result.{err_from_is_err_and}
use Rattle.text.specs.declared.span.Span.{Span}
use Rattle.text.specs.Memory.{Memory, bytes_of}
use Rattle.text.specs.Meanings.{length-bytes_of}
use Rattle.machine.specs.Effects.{charge}
use Rattle.effects.specs.Spending.{memory_with, behind, effects_with}
use Rattle.effects.proofs.Laying.{concat-laid}
use Rattle.effects.proofs.strings.Strings.concat.Goals as goal

-- how long both strings are
both : (m : Memory) (a b : Span) → length (bytes_of m a ++ bytes_of m b) ≡ a.len + b.len
both m a b =
    length-append (bytes_of m a) (bytes_of m b) ∙ (λ i. length-bytes_of m a i + length-bytes_of m b i)

pub returns-in_err-string-clause-made : goal.returns-in_err-string-clause-made
returns-in_err-string-clause-made c =
    let p = err_from_is_err_and c.from_residual.result c.from_residual.ensures.1 in
    let a = c.args in
    let n = both (memory_with a.literals a.self.now.bytes.now) a.a a.b ∙ (λ i. sym c.from-m.ensures i + sym c.from-n.ensures i) in
    let e = c.in_err-string.ensures in
    rw (p.1, p.2) (λ h ha hb. ((λ o. ap (λ k. charge k (effects_with a.self.now o)) n ∙ (e.charged h).0 o), e.within))

pub returns-clause-made : goal.returns-clause-made
returns-clause-made c =
    let a = c.args in
    let p = a.self.now in
    let m : Memory = memory_with a.literals p.bytes.now in
    let n = both m a.a a.b ∙ (λ i. sym c.from-m.ensures i + sym c.from-n.ensures i) in
    let e = c.in_ok-string.ensures in
    let parts = c.split_at_mut-made.ensures in
    λ h ha hb. (
      (λ o. ap (λ k. charge k (effects_with p o)) n ∙ e.charged h o),
      e.within.0 ∙ ap (behind p) (sym n),
      concat-laid m a.a a.b _ _ _ _ _ p.used _ _ _ (c.from.ensures ∙ ap (λ (t : Span). t.start) e.within.0) c.from-m.ensures c.from-n.ensures (ap (λ (b : MutBor (List ℕ)). b.now) e.lent) parts.front parts.back c.copy_string.ensures.copied c.copy_string-2.ensures.copied ha hb (omega (arith, c.add.new.self.within, e.within.1, c.from-m.ensures, c.from-n.ensures, ap (λ (b : MutBor (List ℕ)). length b.now) e.lent)),
    )
