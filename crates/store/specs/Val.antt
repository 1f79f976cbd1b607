-- What a value means: a string is its bytes, whatever span holds them. Assumes nothing.
use Rattle.std.specs.Prelude.{ℕ, Bool, false, List, ℤ, pos, negsuc, ◌==◌}
use Rattle.text.specs.Memory.{Memory, bytes_of, equal_bytes}
use Rattle.text.specs.Agree.{made_end}
use Rattle.store.specs.declared.value.Value.{Value}
use Rattle.store.specs.declared.value.Value.TheVariants.{Int, Str, Ident, Loc}

pub data Val : Type 0 where
  int : ℤ → Val
  string : List ℕ → Val
  identifier : ℕ → Val
  location : ℕ → Val

abbrev pub meaning : Memory → Value → Val
meaning m (Int n) = Val.int n
meaning m (Str s) = Val.string (bytes_of m s)
meaning m (Ident i) = Val.identifier i.0
meaning m (Loc l) = Val.location l.0

-- where a value's bytes end among the strings made; 0 if it has none there
abbrev pub end_of : Value → ℕ
end_of (Int n) = 0
end_of (Str s) = made_end s
end_of (Ident i) = 0
end_of (Loc l) = 0

abbrev pub equal_int : ℤ → ℤ → Bool
equal_int (pos m) (pos n) = m == n
equal_int (pos m) (negsuc n) = false
equal_int (negsuc m) (pos n) = false
equal_int (negsuc m) (negsuc n) = m == n

-- the same kind and the same content
unfoldable pub equal_val : Val → Val → Bool
equal_val (Val.int m) (Val.int n) = equal_int m n
equal_val (Val.int m) (Val.string t) = false
equal_val (Val.int m) (Val.identifier j) = false
equal_val (Val.int m) (Val.location q) = false
equal_val (Val.string s) (Val.int n) = false
equal_val (Val.string s) (Val.string t) = equal_bytes s t
equal_val (Val.string s) (Val.identifier j) = false
equal_val (Val.string s) (Val.location q) = false
equal_val (Val.identifier i) (Val.int n) = false
equal_val (Val.identifier i) (Val.string t) = false
equal_val (Val.identifier i) (Val.identifier j) = i == j
equal_val (Val.identifier i) (Val.location q) = false
equal_val (Val.location p) (Val.int n) = false
equal_val (Val.location p) (Val.string t) = false
equal_val (Val.location p) (Val.identifier j) = false
equal_val (Val.location p) (Val.location q) = p == q
