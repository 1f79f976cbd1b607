use Rattle.std.proofs.Common.{arith, rules, drop, replicate, sym, ap, ◌∙◌, take}
use Rattle.std.proofs.lemmas.List.{length-drop}
use Rattle.syntax.proofs.LentApart.{names-apart, sequence-apart}
use Rattle.syntax.proofs.apart.sequence.Goals as goal

pub returns-clause-reads : goal.returns-clause-reads
returns-clause-reads c =
    let A = c.in_ok-got.ensures.reads in
    let l = c.min-lent.result in
    let spans = replicate 17 c.default-spans.result in
    let n = sym (A.parsed.built.kept.lender ∙ c.resume-nodes.ensures.lender) in
    sequence-apart A c.resume-nodes.ensures.items c.resume-nodes.ensures.counted (search (rules, n)) c.count.ensures.counted
    (λ e learns. names-apart e l _ (drop l spans) c.min-lent.ensures c.copy_from_slice.ensures.after (length-drop l spans) c.resume-known.ensures.room c.resume-known.ensures.held (grind (arith, c.from.ensures)) learns c.len-count.ensures (grind (arith, c.min-kept.ensures)) (c.copy_from_slice-2.ensures.after ∙ ap (take _) c.items.ensures) (grind arith))
