-- Registers of a body: what a write leaves. Assumes nothing.
use Rattle.std.proofs.Common.{◌≡◌, ℕ, suc, ◌+◌, ◌<◌, ◌≤◌, Bool, true, false, cond, ◌||◌, ◌≢◌, List, [], ◌∷◌, length, sym, refl, ◌∙◌, arith}
use Rattle.std.specs.Str.{bytes_eq}
use Rattle.std.proofs.lemmas.Slice.Eq.{bytes_eq-Decides}
use Rattle.store.specs.Val.{Val}
use Rattle.store.specs.Tables.{Table}
use Rattle.machine.specs.State.{Registers, write}
use Rattle.machine.proofs.Judge.{Has, Hold, none, more}
use Rattle.machine.proofs.Registers.{read-written, read-other}
use Rattle.rube.specs.Classes.{Classes, among}
use Rattle.compiler.specs.Layout.{place_in, slot, free}
use Rattle.correctness.proofs.Relation.{Stand, Keep}

pub has-written : (R : Registers) (a : ℕ) (v : Val) → Has (write R a v) a v
has-written R a v = record { is = read-written R a v }

pub has_other : (R : Registers) (a b : ℕ) (v : Val) {w : Val} → a ≢ b → Has R b w → Has (write R a v) b w
has_other R a b v n h = record { is = read-other R a b v n ∙ h.is }

-- a write behind registers that hold values, and before them
pub hold-other : (R : Registers) (a : ℕ) (v : Val) {b : ℕ} {ws : List Val} → b + length ws ≤ a → Hold R b ws → Hold (write R a v) b ws
hold-other R a v l none = none
hold-other R a v l (more h t) = more (has_other R a _ v (λ e. omega arith) h) (hold-other R a v (omega arith) t)

pub hold-below : (R : Registers) (a : ℕ) (v : Val) {b : ℕ} {ws : List Val} → a < b → Hold R b ws → Hold (write R a v) b ws
hold-below R a v l none = none
hold-below R a v l (more h t) = more (has_other R a _ v (λ e. omega arith) h) (hold-below R a v (omega arith) t)

-- a name that is there has a place
pub place-below : (ns : List (List ℕ)) (x : List ℕ) → among ns x ≡ true → place_in ns x < length ns
place-below [] x e = let z : ◌≡◌ {A = ℕ} 0 1 = cc in absurd (omega arith)
place-below (y ∷ ns) x e = by (bytes_eq y x) e (place-below ns x) where
  by : (b : Bool) → (b || among ns x) ≡ true → (among ns x ≡ true → place_in ns x < length ns) → cond b 0 (suc (place_in ns x)) < suc (length ns)
  by true e f = omega arith
  by false e f = let h = f e in omega arith

pub slot-below : (ns : List (List ℕ)) (x : List ℕ) → among ns x ≡ true → slot ns x < free ns
slot-below ns x e = let h = place-below ns x e in omega arith

-- names at one place are one name
pub place_same : (ns : List (List ℕ)) (x y : List ℕ) → among ns x ≡ true → among ns y ≡ true → place_in ns x ≡ place_in ns y → x ≡ y
place_same [] x y e f h = let z : ◌≡◌ {A = ℕ} 0 1 = cc in absurd (omega arith)
place_same (n ∷ ns) x y e f h = by (bytes_eq n x) (bytes_eq n y) refl refl e f h (place_same ns x y) where
  by : (a b : Bool) → bytes_eq n x ≡ a → bytes_eq n y ≡ b → (a || among ns x) ≡ true → (b || among ns y) ≡ true → cond a 0 (suc (place_in ns x)) ≡ cond b 0 (suc (place_in ns y))
      → (among ns x ≡ true → among ns y ≡ true → place_in ns x ≡ place_in ns y → x ≡ y) → x ≡ y
  by true true p q e f h again = sym ((bytes_eq-Decides n x).0 p) ∙ (bytes_eq-Decides n y).0 q
  by true false p q e f h again = absurd (omega arith)
  by false true p q e f h again = absurd (omega arith)
  by false false p q e f h again = again e f (omega arith)

pub keep_same : {a b : ℕ} {R : Registers} → Keep a b R R
keep_same = record { kept = λ i l u. refl }

pub keep-write : {a b : ℕ} {R : Registers} (R' : Registers) (t : ℕ) (v : Val) → b ≤ t → Keep a b R R' → Keep a b R (write R' t v)
keep-write R' t v h k = record { kept = λ i l u. read-other R' t i v (λ e. omega arith) ∙ k.kept i l u }

pub keep-then : {a b c : ℕ} {R R' R'' : Registers} → b ≤ c → Keep a b R R' → Keep a c R' R'' → Keep a b R R''
keep-then h k k' = record { kept = λ i l u. k'.kept i l (omega arith) ∙ k.kept i l u }

pub has_kept : {a b i : ℕ} {R R' : Registers} {v : Val} → a ≤ i → i < b → Keep a b R R' → Has R i v → Has R' i v
has_kept {i = i} l u k h = record { is = k.kept i l u ∙ h.is }

pub hold-kept : {a b : ℕ} {R R' : Registers} {i : ℕ} {vs : List Val} → a ≤ i → i + length vs ≤ b → Keep a b R R' → Hold R i vs → Hold R' i vs
hold-kept l u k none = none
hold-kept l u k (more h t) = more (has_kept l (omega arith) k h) (hold-kept (omega arith) (omega arith) k t)

module _ {A : Type 0} {P : Classes A} where
  -- a write above the names leaves them
  pub stand-write : {ns : List (List ℕ)} {me : Val} {locals : Table} (R : Registers) (a : ℕ) (v : Val) → free ns ≤ a → Stand P ns me locals R → Stand P ns me locals (write R a v)
  stand-write {ns} R a v h s =
      record {
        me-in = has_other R a 1 v (λ e. omega arith) s.me-in;
        names_in = λ x m. let l = slot-below ns x m in has_other R a (slot ns x) v (λ e. omega arith) (s.names_in x m);
      }
