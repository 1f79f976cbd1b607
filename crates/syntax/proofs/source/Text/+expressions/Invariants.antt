use Rattle.std.proofs.Common.{◌+◌, ◌-◌, ◌*◌, length}
use Rattle.syntax.specs.Parsing.{Lent, Moves, MovesArgs, Parsed, Testing, Arguing}
use Rattle.syntax.proofs.source.Text.+expressions.Given as goal

abbrev pub decreases-arguments : goal.decreases-arguments
decreases-arguments l = 9 * (length l.self.bytes.now - l.at) + 7

abbrev pub decreases-conditional : goal.decreases-conditional
decreases-conditional l = 9 * (length l.self.bytes.now - l.sight.to) + 7

abbrev pub decreases-creation : goal.decreases-creation
decreases-creation l = 9 * (length l.self.bytes.now - l.sight.to) + 7

abbrev pub decreases-item : goal.decreases-item
decreases-item l = 9 * (length l.self.bytes.now - l.at) + 5

abbrev pub decreases-keyed : goal.decreases-keyed
decreases-keyed l = 9 * (length l.self.bytes.now - l.sight.to) + 8

abbrev pub decreases-operand : goal.decreases-operand
decreases-operand l = 9 * (length l.self.bytes.now - l.at) + 3

abbrev pub decreases-primary : goal.decreases-primary
decreases-primary l = 9 * (length l.self.bytes.now - l.at) + 2

abbrev pub decreases-repetition : goal.decreases-repetition
decreases-repetition l = 9 * (length l.self.bytes.now - l.sight.to) + 7

abbrev pub decreases-sequence : goal.decreases-sequence
decreases-sequence l = 9 * (length l.self.bytes.now - l.at) + 6

abbrev pub decreases-test : goal.decreases-test
decreases-test l = 9 * (length l.self.bytes.now - l.at) + 4

abbrev pub invariant-arguments-loop-to : goal.invariant-arguments-loop-to
invariant-arguments-loop-to l =
    MovesArgs l.self.bytes.now l.at l.fn.nodes l.nodes l.given × Arguing l.self.bytes.now l.self.base l.at l.fn.nodes l.nodes l.fn.names l.names l.given × Lent l.fn.nodes l.nodes l.fn.names l.names

abbrev pub decreases-arguments-loop-to : goal.decreases-arguments-loop-to
decreases-arguments-loop-to l = length l.self.bytes.now - l.given.to

abbrev pub invariant-operand-loop-to : goal.invariant-operand-loop-to
invariant-operand-loop-to l =
    Moves l.self.bytes.now l.at l.fn.nodes l.nodes l.g × Parsed 1 l.self.bytes.now l.self.base l.at l.fn.nodes l.nodes l.fn.names l.names l.g × Lent l.fn.nodes l.nodes l.fn.names l.names

abbrev pub decreases-operand-loop-to : goal.decreases-operand-loop-to
decreases-operand-loop-to l = length l.self.bytes.now - l.g.to

abbrev pub invariant-test-loop-to : goal.invariant-test-loop-to
invariant-test-loop-to l =
    Moves l.self.bytes.now l.at l.fn.nodes l.nodes l.g × Testing l.self.bytes.now l.self.base l.at l.fn.nodes l.nodes l.fn.names l.names l.g × Lent l.fn.nodes l.nodes l.fn.names l.names

abbrev pub decreases-test-loop-to : goal.decreases-test-loop-to
decreases-test-loop-to l = length l.self.bytes.now - l.g.to
