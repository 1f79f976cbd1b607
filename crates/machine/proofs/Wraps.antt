-- A quotient of 32-bit integers wraps as the machine's bits do.
use Rattle.std.proofs.Common.{◌≡◌, ℕ, zero, suc, ◌/◌, ◌^◌, ◌<◌, ℤ, pos, negsuc, neg_ℤ, Ok, sym, refl, ap, ◌∙◌, mod-eq_of_lt, div-le_self, arith, w32, SFits, to_z, of_z}
use lib.Signed.{mag, quot_z}
use Rattle.std.proofs.lemmas.Int.{to_z-of_z}
use Rattle.std.specs.Int.{int_wrap}
use Rattle.machine.specs.Arith.{quotient}

bits-wrap : (z : ℤ) → mag z < 2 ^ 32 → to_z w32 (of_z w32 z) ≡ int_wrap w32 z
unfolding int_wrap
bits-wrap (pos n) h = ap (to_z w32) (sym (mod-eq_of_lt h))
bits-wrap (negsuc n) h = ap (to_z w32) (rw (mod-eq_of_lt h) (omega arith))

neg_small : (n : ℕ) → n < 2 ^ 32 → mag (neg_ℤ (pos n)) < 2 ^ 32
neg_small zero h = omega arith
neg_small (suc n) h = omega arith

quotient-small : (x y : ℤ) → SFits w32 x → mag (quot_z x y) < 2 ^ 32
quotient-small (pos a) (pos b) f = let d = div-le_self a b in let l = f.sfits in omega arith
quotient-small (pos a) (negsuc b) f = let d = div-le_self a (suc b) in let l = f.sfits in neg_small (a / suc b) (omega arith)
quotient-small (negsuc a) (pos b) f = let d = div-le_self (suc a) b in let l = f.sfits in neg_small (suc a / b) (omega arith)
quotient-small (negsuc a) (negsuc b) f = let d = div-le_self (suc a) (suc b) in let l = f.sfits in omega arith

quotient-wraps : (x y : ℤ) → SFits w32 x → to_z w32 (of_z w32 (quot_z x y)) ≡ int_wrap w32 (quot_z x y)
quotient-wraps x y f = bits-wrap (quot_z x y) (quotient-small x y f)

nonzero : (x y : ℤ) → (of_z w32 y ≡ 0 → ⊥) → quotient x y ≡ Ok (int_wrap w32 (quot_z x y))
nonzero x (pos zero) h = absurd (h refl)
nonzero x (pos (suc n)) h = refl
nonzero x (negsuc n) h = refl

-- what the bits' quotient r gives, where the divisor's bits are not 0
pub divided : (x y r : ℤ) → SFits w32 x → SFits w32 y → (of_z w32 y ≡ 0 → ⊥) → r ≡ to_z w32 (of_z w32 (quot_z (to_z w32 (of_z w32 x)) (to_z w32 (of_z w32 y)))) → SFits w32 r → Ok (to_z w32 (of_z w32 r)) ≡ quotient x y
divided x y r f g h e k =
    let whole : r ≡ int_wrap w32 (quot_z x y) = rw (to_z-of_z w32 x f, to_z-of_z w32 y g) at e ∙ quotient-wraps x y f in
    rw (to_z-of_z w32 r k) (rw whole (sym (nonzero x y h)))
