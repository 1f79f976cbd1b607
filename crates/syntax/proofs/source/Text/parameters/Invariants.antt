use Rattle.std.proofs.Common.{◌-◌, ◌<◌, ◌≤◌, length}
use Rattle.syntax.specs.Classes.{Listing}
use Rattle.syntax.proofs.source.Text.parameters.Given as goal

abbrev pub invariant-loop-to : goal.invariant-loop-to
invariant-loop-to l = (l.at < l.listed.to) × (l.listed.to ≤ length l.self.bytes.now) × (l.listed.parameters.count ≤ l.listed.to) × Listing l.self.bytes.now l.self.base l.at l.fn.names l.names l.listed

abbrev pub decreases-loop-to : goal.decreases-loop-to
decreases-loop-to l = length l.self.bytes.now - l.listed.to
