-- Code that stands in a function, from a place up to a place. Assumes nothing.
use Rattle.std.proofs.Common.{◌≡◌, ℕ, suc, ◌+◌, List, [], ◌∷◌, ◌++◌, length, refl, arith}
use Rattle.machine.specs.Instr.{Instr, Program}
use Rattle.machine.proofs.Judge.{Fetch}

abbrev pub Stands : Program → ℕ → ℕ → List Instr → ℕ → Type 0
Stands C f p [] q = p ≡ q
Stands C f p (i ∷ c) q = Fetch C f p i × Stands C f (suc p) c q

-- the code c stands in the function f from p up to q
pub record Seg (C : Program) (f p : ℕ) (c : List Instr) (q : ℕ) : Type 0 where
  pub is : Stands C f p c q

pub record Split (C : Program) (f p : ℕ) (a b : List Instr) (q : ℕ) : Type 0 where
  pub mid : ℕ
  pub left : Seg C f p a mid
  pub right : Seg C f mid b q
  pub mid-is : mid ≡ p + length a

split_at : (C : Program) (f p : ℕ) (a b : List Instr) (q : ℕ) → Stands C f p (a ++ b) q → Split C f p a b q
split_at C f p [] b q h = record { mid = p; left = record { is = refl }; right = record { is = h }; mid-is = omega arith }
split_at C f p (i ∷ a) b q h =
    let s = split_at C f (suc p) a b q h.1 in
    record { mid = s.mid; left = record { is = (h.0, s.left.is) }; right = s.right; mid-is = omega (arith, s.mid-is) }

-- code that is two pieces stands where they do
pub split : {C : Program} {f p q : ℕ} (a b : List Instr) → Seg C f p (a ++ b) q → Split C f p a b q
split {C} {f} {p} {q} a b h = split_at C f p a b q h.is

end-at : (C : Program) (f p : ℕ) (a : List Instr) (q : ℕ) → Stands C f p a q → q ≡ p + length a
end-at C f p [] q h = omega arith
end-at C f p (i ∷ a) q h = omega (arith, end-at C f (suc p) a q h.1)

pub seg-end : {C : Program} {f p q : ℕ} {a : List Instr} → Seg C f p a q → q ≡ p + length a
seg-end {C} {f} {p} {q} {a} h = end-at C f p a q h.is

pub head : {C : Program} {f p q : ℕ} {i : Instr} {c : List Instr} → Seg C f p (i ∷ c) q → Fetch C f p i
head h = h.is.0

pub tail : {C : Program} {f p q : ℕ} {i : Instr} {c : List Instr} → Seg C f p (i ∷ c) q → Seg C f (suc p) c q
tail h = record { is = h.is.1 }

pub none : {C : Program} {f p q : ℕ} → Seg C f p [] q → p ≡ q
none h = h.is

pub last : {C : Program} {f p q : ℕ} {i : Instr} → Seg C f p (i ∷ []) q → suc p ≡ q
last h = h.is.1
