use Rattle.std.proofs.Common.{arith}
use Rattle.syntax.specs.Sight.{slice}
use Rattle.syntax.proofs.Naming.{learnt-there, target-local}
use Rattle.syntax.proofs.source.Text.learn_target.Goals as goal

pub returns-in-Local : goal.returns-in-Local
returns-in-Local c =
    let t = c.args.target in
    record {
      named_by_it = λ inside.
          target-local t.variable (slice c.args.self.bytes.now t.from t.to) c.in-Local.is
          (learnt-there c.own.result t.from t.to (omega arith) (omega arith) inside c.own.ensures.where_they_lie c.learn.ensures.one_more_if_new);
      lent = c.learn.ensures.lent;
    }
