use Rattle.std.proofs.Common.{arith}
use Rattle.syntax.proofs.Texts.{rule-accepted}
use Rattle.syntax.proofs.rule.judge_rule.Goals as goal

pub returns : goal.returns
returns c = record { the_one_tree_within_the_limits_or_the_refusal = rule-accepted c.in_ok-judged.field-0 _ c.in_ok-judged.ensures.the_one_tree_or_the_refusal (grind (arith, c.accepted.ensures.by_the_limits)) }
