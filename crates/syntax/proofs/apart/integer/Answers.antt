use Rattle.std.proofs.Common.{◌≡◌, ℕ, refl, ap, ◌∙◌, arith, w32, SFits, rules}
use Rattle.std.proofs.lemmas.Int.{to_z-of_z}
use Rattle.grammar.specs.Tree.{Expr}
use Rattle.syntax.specs.Sight.{slice}
use Rattle.syntax.proofs.Sizes.{integer-sized, integer-read}
use Rattle.syntax.proofs.Reading.{never}
use Rattle.syntax.proofs.LentApart.{leaf-made}
use Rattle.syntax.proofs.apart.integer.Goals as goal

pub returns : goal.returns
returns c =
    let s = c.args.sight in
    let w = slice c.args.text.now s.from s.to in
    let p = c.put.ensures.put in
    let r = integer-read w c.value-number.result c.value-number.ensures.read in
    record {
      moves = record { on = omega arith; inside = omega arith; few = omega arith; new = omega arith; root = omega arith };
      reads = leaf-made (Expr.int s.from w) (record { is = c.requires.begins }) (omega arith) (λ k. refl) (λ ns. refl) (λ u i. let z : ◌≡◌ {A = ℕ} 0 1 = cc in never z) refl p refl (integer-sized s.from w (c.leaf.ensures.one_deep ∙ ap (λ z. record { depth = 1; small = z }) c.is_some.ensures) r.0) (λ ns k. k)
          (λ mem lies is. (_, is, λ f. let fits : SFits w32 c.unwrap_or.result = search rules in to_z-of_z w32 _ fits ∙ c.unwrap_or.ensures ∙ r.1 f));
    }
