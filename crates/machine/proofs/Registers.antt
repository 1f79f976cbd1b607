-- The laws of reading and writing registers.
use Rattle.std.proofs.Common.{◌≡◌, ℕ, zero, suc, ◌-◌, ◌<◌, ◌≤◌, ◌≢◌, List, [], ◌∷◌, ◌++◌, map, length, set, replicate, Some, None, Ok, refl, ap, arith}
use Rattle.std.proofs.lemmas.List.{length-append, length-map, length-replicate}
use Rattle.std.specs.List.{slice_get}
use Rattle.store.specs.Val.{Val}
use Rattle.machine.specs.Limits.{registers_per_frame}
use Rattle.machine.specs.State.{Registers, read, write, passed}
use Rattle.machine.specs.Operands.{values_from}
use Rattle.machine.proofs.Judge.{Hold, none, more}

pub read-written : (R : Registers) (a : ℕ) (v : Val) → read (write R a v) a ≡ Some v
unfolding write
read-written [] zero v = refl
read-written [] (suc a) v = read-written [] a v
read-written (x ∷ R) zero v = refl
read-written (x ∷ R) (suc a) v = read-written R a v

pub read-other : (R : Registers) (a b : ℕ) (v : Val) → a ≢ b → read (write R a v) b ≡ read R b
unfolding write
read-other [] zero zero v h = absurd (h refl)
read-other [] zero (suc b) v h = refl
read-other [] (suc a) zero v h = refl
read-other [] (suc a) (suc b) v h = read-other [] a b v (λ e. h (ap suc e))
read-other (x ∷ R) zero zero v h = absurd (h refl)
read-other (x ∷ R) zero (suc b) v h = refl
read-other (x ∷ R) (suc a) zero v h = refl
read-other (x ∷ R) (suc a) (suc b) v h = read-other R a b v (λ e. h (ap suc e))

-- within the list, to write is to set
pub write-within : (R : Registers) (a : ℕ) (v : Val) → a < length R → write R a v ≡ set R a (Some v)
unfolding write
write-within [] a v h = absurd (omega arith)
write-within (x ∷ R) zero v h = refl
write-within (x ∷ R) (suc a) v h = ap (λ Q. x ∷ Q) (write-within R a v (omega arith))

unset-reads : (n a : ℕ) → read (replicate n None) a ≡ None
unset-reads zero a = refl
unset-reads (suc n) zero = refl
unset-reads (suc n) (suc a) = unset-reads n a

front_reads : (vs : List Val) (n a : ℕ) → read (map Some vs ++ replicate n None) a ≡ slice_get vs a
front_reads [] n a = unset-reads n a
front_reads (v ∷ vs) n zero = refl
front_reads (v ∷ vs) n (suc a) = front_reads vs n a

-- a callee finds its arguments from register 0 on, and no other register set
pub passed_reads : (vs : List Val) (a : ℕ) → read (passed vs) a ≡ slice_get vs a
unfolding passed
passed_reads vs a = front_reads vs (registers_per_frame - length vs) a

-- a frame has all its registers
pub passed_length : (vs : List Val) → length vs ≤ registers_per_frame → length (passed vs) ≡ registers_per_frame
unfolding passed
passed_length vs h = simp (length-append, length-map, length-replicate) (omega arith)

pub values-held : {R : Registers} {a : ℕ} {vs : List Val} → Hold R a vs → values_from R a (length vs) ≡ Ok vs
unfolding values_from
values-held none = refl
values-held (more h t) = rw (h.is, values-held t)
