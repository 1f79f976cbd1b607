-- The most that a store is made for. Assumes nothing.
use Rattle.std.specs.Prelude.{ℕ}

abbrev pub most_tables : ℕ
most_tables = 4096

abbrev pub most_pairs : ℕ
most_pairs = 16384
