use Rattle.std.proofs.Common.{rules, sym, ◌∙◌}
use Rattle.syntax.proofs.Reading.{handed}
use Rattle.syntax.proofs.Texts.{class-judged, breaks}
use Rattle.syntax.proofs.class.judged.Goals as goal

pub returns-in_err-class : goal.returns-in_err-class
returns-in_err-class c =
    let t = c.in_ok-text.ensures in
    rw (handed c.from_residual-in_err-class.result c.from_residual-in_err-class.ensures.1) (record { the_one_tree_or_the_refusal = breaks t.same.0 t.lexed c.in_err-class.ensures.reads })

pub returns : goal.returns
returns c =
    let M = c.in_ok-class.ensures.reads in
    let t = c.in_ok-text.ensures in
    let n = sym (M.read.lenders.0 ∙ c.new-nodes.ensures.lender) in
    let m = sym (M.read.lenders.1 ∙ c.new-methods.ensures.lender) in
    record { the_one_tree_or_the_refusal = class-judged t.same (search (rules, n)) (search (rules, m)) t.lexed M }
