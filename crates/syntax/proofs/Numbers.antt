-- Digits read one after another.
use Rattle.std.proofs.Common.{◌≡◌, ℕ, ◌+◌, ◌-◌, ◌*◌, ◌<◌, ◌≤◌, List, [], ◌∷◌, length, get_or, drop, ap, arith}
use Rattle.std.proofs.lemmas.List.{drop_more}
use Rattle.grammar.specs.Measure.{digits_from}

digits_above : (bs : List ℕ) (n : ℕ) → n ≤ digits_from n bs
digits_above [] n = omega arith
digits_above (b ∷ bs) n = let h = digits_above bs (10 * n + (b - 48)) in omega arith

-- what was read of the digits is no more than all of them are
pub digits-read : (w : List ℕ) (i n : ℕ) → i < length w → digits_from n (drop i w) ≡ digits_from 0 w → 10 * n + (get_or w i 0 - 48) ≤ digits_from 0 w
digits-read w i n h e =
    let a = digits_above (drop (i + 1) w) (10 * n + (get_or w i 0 - 48)) in
    let d = ap (digits_from n) (drop_more w i 0 h) in
    omega arith
