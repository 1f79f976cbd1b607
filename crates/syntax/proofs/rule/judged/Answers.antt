use Rattle.std.proofs.Common.{rules, sym, ◌∙◌}
use Rattle.syntax.proofs.Reading.{handed}
use Rattle.syntax.proofs.Texts.{rule-judged, breaks}
use Rattle.syntax.proofs.rule.judged.Goals as goal

pub returns-in_err-rule : goal.returns-in_err-rule
returns-in_err-rule c =
    let t = c.in_ok-text.ensures in
    rw (handed c.from_residual-in_err-rule.result c.from_residual-in_err-rule.ensures.1) (record { the_one_tree_or_the_refusal = breaks t.same.0 t.lexed c.in_err-rule.ensures.reads })

pub returns : goal.returns
returns c =
    let M = c.in_ok-rule.ensures.reads in
    let t = c.in_ok-text.ensures in
    let n = sym (M.read.lender ∙ c.new-nodes.ensures.lender) in
    record { the_one_tree_or_the_refusal = rule-judged t.same (search (rules, n)) t.lexed M }
