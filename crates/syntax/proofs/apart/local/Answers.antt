use Rattle.std.proofs.Common.{refl, ap, arith}
use Rattle.grammar.specs.Tree.{Expr}
use Rattle.syntax.specs.Sight.{slice}
use Rattle.syntax.specs.Parsing.{target_token}
use Rattle.syntax.proofs.Sizes.{plain-sized}
use Rattle.syntax.proofs.Forms.{word-seen, some_same}
use Rattle.syntax.proofs.LentApart.{learnt-there, leaf-made}
use Rattle.syntax.proofs.apart.local.Goals as goal

pub returns : goal.returns
returns c =
    let s = c.args.sight in
    let w = slice c.args.text.now s.from s.to in
    let p = c.put.ensures.put in
    record {
      moves = record { on = omega arith; inside = omega arith; few = omega arith; new = omega arith; root = omega arith };
      reads = leaf-made (Expr.local s.from w) (record { is = c.requires.begins }) (omega arith) (λ k. refl) (λ ns. refl) (λ u i. ap target_token (some_same i)) refl p refl (plain-sized (Expr.local s.from w) c.leaf.ensures.one_deep refl tt (omega arith) (omega arith)) (learnt-there c.own.result s.from s.to (omega arith) (omega arith) (omega arith) c.own.ensures.where_they_lie c.learn-known.ensures.one_more_if_new).learns
          (λ mem lies is. (_, is, word-seen c.args.base s.from s.to c.span.ensures.where_they_lie (omega arith) (omega arith) mem lies));
    }
