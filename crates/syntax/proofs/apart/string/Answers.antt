use Rattle.std.proofs.Common.{◌≡◌, ℕ, ◌+◌, ◌-◌, ◌≤◌, leb, length, Decides, sym, refl, ap, ◌∙◌, subst, arith}
use Rattle.std.proofs.lemmas.List.{length-take, length-drop}
use Rattle.std.proofs.lemmas.Bool.{leb-true, le-leb}
use Rattle.grammar.specs.Tree.{Expr}
use Rattle.syntax.specs.Sight.{slice}
use Rattle.syntax.proofs.Sizes.{string-sized}
use Rattle.syntax.proofs.Forms.{word-seen}
use Rattle.syntax.proofs.Reading.{never}
use Rattle.syntax.proofs.LentApart.{leaf-made}
use Rattle.syntax.proofs.apart.string.Goals as goal

pub returns : goal.returns
returns c =
    let s = c.args.sight in
    let w = slice c.args.text.now (s.from + 1) (s.to - 1) in
    let p = c.put.ensures.put in
    let n : c.span-word.result.len ≡ length w = ap (λ z. z.len) c.span-word.ensures.where_they_lie ∙ sym (simp (length-take, length-drop) (omega arith)) in
    let judged = subst (λ z. Decides (leb c.span-word.result.len 255) (z ≤ 255)) n (leb-true c.span-word.result.len 255, le-leb c.span-word.result.len 255) in
    record {
      moves = record { on = omega arith; inside = omega arith; few = omega arith; new = omega arith; root = omega arith };
      reads = leaf-made (Expr.string s.from w) (record { is = c.requires.begins }) (omega arith) (λ k. refl) (λ ns. refl) (λ u i. let z : ◌≡◌ {A = ℕ} 0 1 = cc in never z) refl p refl (string-sized s.from w c.leaf.ensures.one_deep judged) (λ ns k. k)
          (λ mem lies is. (_, is, word-seen c.args.base (s.from + 1) (s.to - 1) c.span-word.ensures.where_they_lie (omega arith) (omega arith) mem lies));
    }
