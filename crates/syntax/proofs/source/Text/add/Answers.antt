use Rattle.std.proofs.Common.{arith, refl, ap, set, ◌∙◌}
use Rattle.syntax.proofs.Naming.{learnt-there}
use Rattle.syntax.proofs.source.Text.add.Goals as goal

pub returns : goal.returns
returns c = record {
  one_more = record {
    to_is = refl;
    many = c.with.ensures.counted;
    names = c.with.ensures.kept ∙ ap (set c.args.listed.parameters.names c.args.listed.parameters.count) c.span-name.ensures.where_they_lie;
    named = learnt-there c.own.result c.args.sight.from c.args.sight.to (omega arith) (omega arith) (omega arith) c.own.ensures.where_they_lie c.learn.ensures.one_more_if_new;
  };
}
