-- What a run makes and prints, and what it may still print: the same for the machine and for the language. Assumes nothing.
use Rattle.std.specs.Prelude.{ℕ, suc, ◌+◌, ◌-◌, ◌&&◌, List, [], ◌++◌, length, Ok, nat_le, nat_lt}
use Rattle.machine.specs.declared.ending.Ending.TheVariants.{NoTextSpace, NoOutputSpace}
use Rattle.machine.specs.Limits.{most_strings, most_string_bytes}
use Rattle.machine.specs.Outcome.{Outcome, unless}

pub record Effects : Type 0 where
  -- strings made, and how many bytes they have
  pub strings : ℕ
  pub bytes : ℕ
  -- bytes printed, the oldest first, and how many more may be
  pub output : List ℕ
  pub left : ℕ

-- a run that has room for so much output has done nothing yet
abbrev pub nothing_yet : ℕ → Effects
nothing_yet left = record { strings = 0; bytes = 0; output = []; left = left }

abbrev pub charged : ℕ → Effects → Effects
charged n o = record { strings = suc o.strings; bytes = o.bytes + n; output = o.output; left = o.left }

abbrev pub printed : List ℕ → Effects → Effects
printed s o = record { strings = o.strings; bytes = o.bytes; output = o.output ++ s; left = o.left - length s }

-- one more string of n bytes is charged, or there is no space for it
unfoldable pub charge : ℕ → Effects → Outcome Effects
charge n o =
    unless NoTextSpace (nat_lt o.strings most_strings && nat_le (o.bytes + n) most_string_bytes) (Ok (charged n o))

-- a print that does not fit writes nothing
unfoldable pub print : List ℕ → Effects → Outcome Effects
print s o = unless NoOutputSpace (nat_le (length s) o.left) (Ok (printed s o))
