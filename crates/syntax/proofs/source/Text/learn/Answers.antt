use Rattle.std.proofs.Common.{not, refl, ap, ◌∙◌}
use Rattle.syntax.proofs.Naming.{learnt-known, learnt-new}
use Rattle.syntax.proofs.source.Text.learn.Goals as goal

pub returns-then-is_none : goal.returns-then-is_none
returns-then-is_none c =
    record { one_more_if_new = learnt-new c.args.name c.items.ensures c.first_equal.result c.push.result c.first_equal.ensures.first (c.is_none.ensures ∙ ap not c.if-is_none.true) c.push.ensures.room c.push.ensures.full c.push.ensures.held; lent = record { lender = c.push.ensures.lender; room = c.push.ensures.room } }

pub returns-else-is_none : goal.returns-else-is_none
returns-else-is_none c = record { one_more_if_new = learnt-known c.args.name c.items.ensures c.first_equal.result c.first_equal.ensures.first (c.is_none.ensures ∙ ap not c.if-is_none.false); lent = record { lender = refl; room = refl } }
