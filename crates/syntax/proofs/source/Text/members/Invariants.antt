use Rattle.std.proofs.Common.{◌-◌, ◌≤◌, length}
use Rattle.syntax.specs.Classes.{MembersMeasured}
use Rattle.syntax.proofs.source.Text.members.Given as goal

abbrev pub invariant-loop-to : goal.invariant-loop-to
invariant-loop-to l =
    (l.at ≤ l.end) × (l.end ≤ length l.self.bytes.now) × (l.nodes.count ≤ l.end) × (l.methods.count ≤ l.end)
    × MembersMeasured l.self.bytes.now l.self.base l.at l.fn.nodes l.nodes l.fn.methods l.methods (record { read = l.end; within = l.within })

abbrev pub decreases-loop-to : goal.decreases-loop-to
decreases-loop-to l = length l.self.bytes.now - l.end
