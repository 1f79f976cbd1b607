-- What each refusal says. Assumes nothing.
use Rattle.std.specs.Prelude.{ℕ}
use Rattle.nodes.specs.declared.refusal.Refusal.{Refusal}
use Rattle.nodes.specs.declared.refusal.Refusal.TheVariants.{TooLong, Stray, Unexpected, OverLimit}

-- the question that each refusal answers
abbrev pub number_of : Refusal → ℕ
number_of TooLong = 4
number_of (Stray p) = 5
number_of (Unexpected p) = 6
number_of OverLimit = 7

-- the place that it names, or 0
abbrev pub place_of : Refusal → ℕ
place_of TooLong = 0
place_of (Stray p) = p
place_of (Unexpected p) = p
place_of OverLimit = 0
