-- Bytes as text that shows each of them. Assumes nothing.
use Rattle.std.specs.Prelude.{ℕ, ◌-◌, ◌^◌, Bool, false, cond, not, ◌&&◌, ◌==◌, nat_le, List, [], ◌∷◌, ◌++◌, codes}
use Rattle.std.specs.Fmt.{digits, padded_integral, format_spec}
use Rattle.display.specs.declared.bytes.Rule.{Rule}
use Rattle.display.specs.declared.bytes.Rule.TheVariants.{Visible, Reversible}

-- from space to tilde
abbrev pub visible : ℕ → Bool
visible b = nat_le 32 b && nat_le b 126

-- which bytes stand as they are
abbrev pub keeps : Rule → ℕ → Bool
keeps Visible b = visible b
keeps Reversible b = visible b && not (b == 92)

-- two digits in base 16, padded with zeros
abbrev pub code : ℕ → List ℕ
code b = padded_integral (format_spec 32 0 4 2 (2 ^ 64 - 1)) false [] (digits 16 false b)

-- a byte as it is, or `\x` and its code
abbrev pub shown : Rule → ℕ → List ℕ
shown r b = cond (keeps r b) (b ∷ []) (codes "\\x" ++ code b)
