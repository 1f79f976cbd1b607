-- The functions that the machine has itself: they run within the step of their call. Assumes nothing.
use Rattle.std.specs.Prelude.{ℕ, cond, List, [], ◌∷◌, ◌++◌, length, ℤ, pos, Some, None, Ok, Err, Option, ◌==◌}
use Rattle.std.specs.Fmt.{signed_decimal}
use Rattle.store.specs.Val.{Val}
use Rattle.machine.specs.declared.builtin.Builtin.{Builtin}
use Rattle.machine.specs.declared.builtin.Builtin.TheVariants.{PrintValue, ToS, Concat, Length}
use Rattle.machine.specs.declared.ending.Ending.TheVariants.{Stuck}
use Rattle.machine.specs.Outcome.{Outcome, ◌>>=◌}
use Rattle.machine.specs.Effects.{Effects, charge, print}

-- their numbers lie above those of all laid functions
abbrev pub builtin_number : Builtin → ℕ
builtin_number PrintValue = 65280
builtin_number ToS = 65281
builtin_number Concat = 65282
builtin_number Length = 65283

abbrev pub builtin_of : ℕ → Option Builtin
builtin_of g =
    cond (g == builtin_number PrintValue) (Some PrintValue)
    (cond (g == builtin_number ToS) (Some ToS)
    (cond (g == builtin_number Concat) (Some Concat) (cond (g == builtin_number Length) (Some Length) None)))

-- a value of the kind that is wanted; any other is stuck
abbrev pub integer_in : Val → Outcome ℤ
integer_in (Val.int n) = Ok n
integer_in (Val.string s) = Err Stuck
integer_in (Val.identifier g) = Err Stuck
integer_in (Val.location l) = Err Stuck

abbrev pub string_in : Val → Outcome (List ℕ)
string_in (Val.int n) = Err Stuck
string_in (Val.string s) = Ok s
string_in (Val.identifier g) = Err Stuck
string_in (Val.location l) = Err Stuck

-- what is printed of a value
abbrev pub shown : Val → Outcome (List ℕ)
shown (Val.int n) = Ok (signed_decimal n)
shown (Val.string s) = Ok s
shown (Val.identifier g) = Err Stuck
shown (Val.location l) = Err Stuck

-- exactly one argument, exactly two
abbrev pub one : List Val → Outcome Val
one [] = Err Stuck
one (v ∷ []) = Ok v
one (v ∷ w ∷ vs) = Err Stuck

abbrev pub two : List Val → Outcome (Val × Val)
two [] = Err Stuck
two (v ∷ []) = Err Stuck
two (v ∷ w ∷ []) = Ok (v, w)
two (v ∷ w ∷ x ∷ vs) = Err Stuck

-- a string made is charged, whatever it is
abbrev pub make : List ℕ → Effects → Outcome (Val × Effects)
make s o = charge (length s) o >>= (λ p. Ok (Val.string s, p))

-- the answer of a built-in function to its arguments
unfoldable pub apply : Builtin → List Val → Effects → Outcome (Val × Effects)
apply PrintValue vs o = one vs >>= shown >>= (λ s. print s o) >>= (λ p. Ok (Val.int (pos 0), p))
apply ToS vs o = one vs >>= integer_in >>= (λ n. make (signed_decimal n) o)
apply Concat vs o = two vs >>= (λ p. string_in p.0 >>= (λ s. string_in p.1 >>= (λ t. make (s ++ t) o)))
apply Length vs o = one vs >>= string_in >>= (λ s. Ok (Val.int (pos (length s)), o))
