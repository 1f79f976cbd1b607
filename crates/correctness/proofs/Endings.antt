-- Want of space and division by zero end a run as the language does. Assumes nothing.
use Rattle.std.proofs.Common.{◌≡◌, ℕ, zero, suc, Bool, true, false, List, ℤ, pos, negsuc, Ok, Err, refl, arith}
use Rattle.machine.specs.declared.arith.Op.{Op}
use Rattle.machine.specs.declared.arith.Op.TheVariants.{Add, Sub, Mul, Div}
use Rattle.machine.specs.declared.ending.Ending.{Ending}
use Rattle.machine.specs.declared.ending.Ending.TheVariants.{DivisionByZero, NoTextSpace, NoOutputSpace}
use Rattle.machine.specs.Outcome.{unless}
use Rattle.machine.specs.Arith as arithmetic
use Rattle.machine.specs.Effects.{Effects, charged, printed, charge, print}
use Rattle.correctness.proofs.Following.{legal}

unless-legal : {X : Type 0} (z : Ending) (b : Bool) (x : X) (e : Ending) → legal z ≡ true → unless z b (Ok x) ≡ Err e → legal e ≡ true
unless-legal z true x e l h = let y : ◌≡◌ {A = ℕ} 0 1 = cc in absurd (omega arith)
unless-legal z false x e l h = let y : z ≡ e = cc in rw (← y) l

-- a string that is made
pub charge-legal : (n : ℕ) (o : Effects) (e : Ending) → charge n o ≡ Err e → legal e ≡ true
unfolding charge
charge-legal n o e h = unless-legal NoTextSpace _ (charged n o) e refl h

-- a print
pub print-legal : (t : List ℕ) (o : Effects) (e : Ending) → print t o ≡ Err e → legal e ≡ true
unfolding print
print-legal t o e h = unless-legal NoOutputSpace _ (printed t o) e refl h

-- a sum, difference, product or quotient
pub arith-legal : (o : Op) (m n : ℤ) (e : Ending) → arithmetic.arith o m n ≡ Err e → legal e ≡ true
unfolding arithmetic.arith
arith-legal Add m n e h = let y : ◌≡◌ {A = ℕ} 0 1 = cc in absurd (omega arith)
arith-legal Sub m n e h = let y : ◌≡◌ {A = ℕ} 0 1 = cc in absurd (omega arith)
arith-legal Mul m n e h = let y : ◌≡◌ {A = ℕ} 0 1 = cc in absurd (omega arith)
arith-legal Div m (pos zero) e h = let y : DivisionByZero ≡ e = cc in rw (← y)
arith-legal Div m (pos (suc n)) e h = let y : ◌≡◌ {A = ℕ} 0 1 = cc in absurd (omega arith)
arith-legal Div m (negsuc n) e h = let y : ◌≡◌ {A = ℕ} 0 1 = cc in absurd (omega arith)
