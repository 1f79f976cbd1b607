use Rattle.std.proofs.Common.{arith}
use Rattle.syntax.specs.Sight.{slice}
use Rattle.syntax.proofs.LentApart.{learnt-there, target-local}
use Rattle.syntax.proofs.apart.learn_target.Goals as goal

pub returns-else-target : goal.returns-else-target
returns-else-target c =
    let t = c.args.target in
    record {
      named_by_it = λ inside.
          target-local t.field (slice c.args.text.now t.from t.to) c.if-target.false
          (learnt-there c.own.result t.from t.to (omega arith) (omega arith) inside c.own.ensures.where_they_lie c.learn.ensures.one_more_if_new);
    }
