use Rattle.std.proofs.Common.{arith, refl}
use Rattle.syntax.proofs.Naming.{no_names}
use Rattle.syntax.proofs.Reading.{handed}
use Rattle.syntax.proofs.Texts.{rule-made, rule-left, rule-lost}
use Rattle.syntax.proofs.source.Text.rule.Goals as goal

pub returns-in_err-got : goal.returns-in_err-got
returns-in_err-got c = rw (handed c.from_residual.result c.from_residual.ensures.1) (record { reads = rule-lost c.in_err-got.ensures.reads })

pub returns-in_err-end : goal.returns-in_err-end
returns-in_err-end c = rw (handed c.from_residual-in_err-end.result c.from_residual-in_err-end.ensures.1) (record { reads = rule-left c.in_ok-got.ensures.reads c.in_err-end.ensures.found })

pub returns : goal.returns
returns c = record { reads = rule-made c.in_ok-got.ensures.reads c.in_ok-end.ensures.found c.requires.none c.count.ensures.counted (no_names c.new-names.ensures.room c.new-names.ensures.held) refl (grind (arith, c.len.ensures, c.within.ensures.each_limit)) }
