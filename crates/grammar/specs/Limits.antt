-- The limits of a text. Assumes nothing.
use Rattle.std.specs.Prelude.{ℕ, ◌-◌, ◌^◌, ℤ, pos, neg_ℤ}

-- integers are those of 32 bits
abbrev pub smallest_integer : ℤ
smallest_integer = neg_ℤ (pos (2 ^ 31))

abbrev pub largest_integer : ℤ
largest_integer = pos (2 ^ 31 - 1)

-- the bytes of a string literal, without its quotes
abbrev pub string_limit : ℕ
string_limit = 255

-- the arguments of a call, and the parameters of a method
abbrev pub argument_limit : ℕ
argument_limit = 4

-- the distinct names of parameters and locals in a body
abbrev pub name_limit : ℕ
name_limit = 16

-- how deep expressions stand in one another
abbrev pub depth_limit : ℕ
depth_limit = 16
