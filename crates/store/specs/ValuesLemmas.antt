-- When two values mean the same, and what other bytes change. Assumes nothing.
use Rattle.std.specs.Prelude.{◌≡◌, ℕ, ◌≤◌, ℤ, pos, negsuc, Decides, ◌==◌, refl}
use Rattle.std.proofs.Common.{ap}
use Rattle.std.proofs.lemmas.Bool.Decides.{Decides-eqb, Decides-like, Decides-and}
use Rattle.text.specs.Memory.{Memory, equal_bytes}
use Rattle.text.specs.Agree.{Grown}
use Rattle.text.specs.Meanings.{not-true, bytes_of-grown, decides-bytes}
use Rattle.store.specs.declared.value.Value.{Value}
use Rattle.store.specs.declared.value.Value.TheVariants.{Int, Str, Ident, Loc}
use Rattle.store.specs.Val.{Val, meaning, end_of, equal_int, equal_val}
use Rattle.store.specs.Filed.{same_place}

-- a value that ends by u means the same once strings were made from u on
pub meaning-grown : (u : ℕ) (m n : Memory) (v : Value) → Grown u m n → end_of v ≤ u → meaning m v ≡ meaning n v
meaning-grown u m n (Int i) g h = refl
meaning-grown u m n (Str s) g h = ap Val.string (bytes_of-grown u m n s g h)
meaning-grown u m n (Ident i) g h = refl
meaning-grown u m n (Loc l) g h = refl

decides-int : (x y : ℤ) → Decides (equal_int x y) (x ≡ y)
decides-int (pos m) (pos n) = Decides-like (m == n) (ap pos) (λ e. cc) (Decides-eqb m n)
decides-int (pos m) (negsuc n) = (not-true, λ e. cc)
decides-int (negsuc m) (pos n) = (not-true, λ e. cc)
decides-int (negsuc m) (negsuc n) = Decides-like (m == n) (ap negsuc) (λ e. cc) (Decides-eqb m n)

-- equality of values means the same kind and content
pub decides-val : (x y : Val) → Decides (equal_val x y) (x ≡ y)
unfolding equal_val
decides-val (Val.int m) (Val.int n) = Decides-like (equal_int m n) (ap Val.int) (λ e. cc) (decides-int m n)
decides-val (Val.int m) (Val.string t) = (not-true, λ e. cc)
decides-val (Val.int m) (Val.identifier j) = (not-true, λ e. cc)
decides-val (Val.int m) (Val.location q) = (not-true, λ e. cc)
decides-val (Val.string s) (Val.int n) = (not-true, λ e. cc)
decides-val (Val.string s) (Val.string t) = Decides-like (equal_bytes s t) (ap Val.string) (λ e. cc) (decides-bytes s t)
decides-val (Val.string s) (Val.identifier j) = (not-true, λ e. cc)
decides-val (Val.string s) (Val.location q) = (not-true, λ e. cc)
decides-val (Val.identifier i) (Val.int n) = (not-true, λ e. cc)
decides-val (Val.identifier i) (Val.string t) = (not-true, λ e. cc)
decides-val (Val.identifier i) (Val.identifier j) = Decides-like (i == j) (ap Val.identifier) (λ e. cc) (Decides-eqb i j)
decides-val (Val.identifier i) (Val.location q) = (not-true, λ e. cc)
decides-val (Val.location p) (Val.int n) = (not-true, λ e. cc)
decides-val (Val.location p) (Val.string t) = (not-true, λ e. cc)
decides-val (Val.location p) (Val.identifier j) = (not-true, λ e. cc)
decides-val (Val.location p) (Val.location q) = Decides-like (p == q) (ap Val.location) (λ e. cc) (Decides-eqb p q)

-- equality of places means the same table and key
pub decides-place : (p q : ℕ × Val) → Decides (same_place p q) (p ≡ q)
unfolding same_place
decides-place p q =
    Decides-like _ (λ (e : (p.0 ≡ q.0) × (p.1 ≡ q.1)). λ i. (e.0 i, e.1 i)) (λ (e : p ≡ q). (ap (λ (z : ℕ × Val). z.0) e, ap (λ (z : ℕ × Val). z.1) e))
    (Decides-and (p.0 == q.0) (equal_val p.1 q.1) (Decides-eqb p.0 q.0) (decides-val p.1 q.1))
