use Rattle.std.proofs.Common.{◌≡◌, ◌≤◌, drop, length}
use Rattle.grammar.specs.Measure.{digits_from}
use Rattle.syntax.proofs.number.digits.Given as goal

abbrev pub invariant-loop-b : goal.invariant-loop-b
invariant-loop-b l = (l.b-index ≤ length l.word) × (digits_from l.n (drop l.b-index l.word) ≡ digits_from 0 l.word)
