-- Bytes laid over others. Assumes nothing.
use Rattle.std.specs.Prelude.{ℕ, ◌+◌, List, ◌++◌, length, take, drop}

-- xs with ys from the place `at` on
abbrev pub laid : List ℕ → ℕ → List ℕ → List ℕ
laid xs at ys = take at xs ++ (ys ++ drop (at + length ys) xs)
