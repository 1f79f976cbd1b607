use Rattle.std.proofs.Common.{refl, ap, arith}
use Rattle.grammar.specs.Tree.{Expr}
use Rattle.syntax.specs.Sight.{slice}
use Rattle.syntax.specs.Parsing.{target_token}
use Rattle.syntax.proofs.Sizes.{plain-sized}
use Rattle.syntax.proofs.Forms.{leaf-made, word-seen, some_same}
use Rattle.syntax.proofs.source.Text.field.Goals as goal

pub returns-clause-reads : goal.returns-clause-reads
returns-clause-reads c p us begins =
    let s = c.args.sight in
    let w = slice c.args.self.bytes.now s.from s.to in
    leaf-made (Expr.field s.from w) (record { is = begins }) (omega arith) (λ k. refl) (λ ns. refl) (λ u i. ap target_token (some_same i)) refl c.leaf.ensures.put refl (plain-sized (Expr.field s.from w) refl refl tt (omega arith) (omega arith)) (λ ns k. k)
    (λ mem lies is. (_, is, word-seen c.args.self.base s.from s.to c.span.ensures.where_they_lie (omega arith) (omega arith) mem lies))
