use Rattle.std.proofs.Common.{sym, ◌∙◌, arith}
use Rattle.std.proofs.lemmas.List.{set_past}
use Rattle.syntax.proofs.LentApart.{learnt-found, learnt-unfound}
use Rattle.syntax.proofs.apart.learn.Goals as goal
use Rattle.syntax.proofs.apart.learn.Goals.{then-n-names-2, else-n-names-2}

pub returns-then-is_some : goal.returns-then-is_some
returns-then-is_some c = record { one_more_if_new = learnt-found c.args.name c.from-n.ensures c.first_equal.result c.first_equal.ensures.first (sym c.is_some.ensures ∙ c.if-is_some.true) (omega arith) }

pub returns : goal.returns
returns c =
    record {
      one_more_if_new = learnt-unfound c.args.name c.from-n.ensures c.first_equal.result c.first_equal.ensures.first (sym c.is_some.ensures ∙ c.if-is_some.false) (omega arith)
          (elim c.if-n-names-2.branch [ then-n-names-2 w ↦ w.names-is | else-n-names-2 w ↦ w.names-is ∙ sym (set_past _ _ _ (omega (arith, w.if-n-names-2.false))) ]);
    }
