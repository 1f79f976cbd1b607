-- How much a run may have. Assumes nothing.
use Rattle.std.specs.Prelude.{ℕ}

-- registers of a frame, numbered from 0
abbrev pub registers_per_frame : ℕ
registers_per_frame = 128

-- the running frame is one of them
abbrev pub most_frames : ℕ
most_frames = 32

abbrev pub most_globals : ℕ
most_globals = 32

-- strings that a run makes, and their bytes
abbrev pub most_strings : ℕ
most_strings = 2048

abbrev pub most_string_bytes : ℕ
most_string_bytes = 32768

-- what a store has room for: tables, and pairs in all of them
pub record Limits : Type 0 where
  pub tables : ℕ
  pub pairs : ℕ
