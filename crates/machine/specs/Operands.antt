-- What instructions read from registers. Assumes nothing.
use Rattle.std.specs.Prelude.{ℕ, zero, suc, Bool, true, false, cond, List, [], ◌∷◌, ℤ, pos, negsuc, is_some, Ok, Err}
use Rattle.store.specs.Val.{Val, equal_val}
use Rattle.store.specs.Tables as store
use Rattle.store.specs.Tables.{Table, Tables, look, made}
use Rattle.machine.specs.declared.arith.Op.{Op}
use Rattle.machine.specs.declared.arith.Order.{Order}
use Rattle.machine.specs.declared.instruction.Kind.{Kind}
use Rattle.machine.specs.declared.instruction.Kind.TheVariants.{Integer, Text, Table as Tab}
use Rattle.machine.specs.declared.ending.Ending.TheVariants.{Stuck}
use Rattle.machine.specs.Outcome.{Outcome, ◌>>=◌, need, unless}
use Rattle.machine.specs.Arith.{arith, in_order}
use Rattle.machine.specs.Builtin.{integer_in}
use Rattle.machine.specs.State.{Registers, read}

-- what a register holds; an unset one, and so one past the last, is stuck
abbrev pub value_at : Registers → ℕ → Outcome Val
value_at R a = need (read R a)

abbrev pub integer_at : Registers → ℕ → Outcome ℤ
integer_at R a = value_at R a >>= integer_in

-- the table at a register's location: one that was made
abbrev pub table_in : Tables → Val → Outcome ℕ
table_in T (Val.int n) = Err Stuck
table_in T (Val.string s) = Err Stuck
table_in T (Val.identifier g) = Err Stuck
table_in T (Val.location l) = unless Stuck (made T l) (Ok l)

abbrev pub table_at : Tables → Registers → ℕ → Outcome ℕ
table_at T R a = value_at R a >>= table_in T

-- the function that a register names
abbrev pub function_in : Val → Outcome ℕ
function_in (Val.int n) = Err Stuck
function_in (Val.string s) = Err Stuck
function_in (Val.identifier g) = Ok g
function_in (Val.location l) = Err Stuck

abbrev pub function_at : Registers → ℕ → Outcome ℕ
function_at R a = value_at R a >>= function_in

-- n registers from a on, all set
unfoldable pub values_from : Registers → ℕ → ℕ → Outcome (List Val)
values_from R a zero = Ok []
values_from R a (suc n) = value_at R a >>= (λ v. values_from R (suc a) n >>= (λ vs. Ok (v ∷ vs)))

-- 1 for yes, 0 for no
abbrev pub truth : Bool → Val
truth b = Val.int (pos (cond b 1 0))

abbrev pub is_zero : Val → Bool
is_zero (Val.int (pos zero)) = true
is_zero (Val.int (pos (suc n))) = false
is_zero (Val.int (negsuc n)) = false
is_zero (Val.string s) = false
is_zero (Val.identifier g) = false
is_zero (Val.location l) = false

abbrev pub is_of : Kind → Val → Bool
is_of Integer (Val.int n) = true
is_of Integer (Val.string s) = false
is_of Integer (Val.identifier g) = false
is_of Integer (Val.location l) = false
is_of Text (Val.int n) = false
is_of Text (Val.string s) = true
is_of Text (Val.identifier g) = false
is_of Text (Val.location l) = false
is_of Tab (Val.int n) = false
is_of Tab (Val.string s) = false
is_of Tab (Val.identifier g) = false
is_of Tab (Val.location l) = true

-- the sum, difference, product or quotient of two integers
abbrev pub arith_at : Op → Registers → ℕ → ℕ → Outcome Val
arith_at o R b c = integer_at R b >>= (λ x. integer_at R c >>= (λ y. arith o x y >>= (λ z. Ok (Val.int z))))

-- are two values the same, kind and content?
abbrev pub same_at : Registers → ℕ → ℕ → Outcome Val
same_at R b c = value_at R b >>= (λ x. value_at R c >>= (λ y. Ok (truth (equal_val x y))))

-- is an integer less than another, or at most the other?
abbrev pub ordered_at : Order → Registers → ℕ → ℕ → Outcome Val
ordered_at o R b c = integer_at R b >>= (λ x. integer_at R c >>= (λ y. Ok (truth (in_order o x y))))

-- is a value of this kind?
abbrev pub kind_at : Kind → Registers → ℕ → Outcome Val
kind_at k R b = value_at R b >>= (λ x. Ok (truth (is_of k x)))

-- the value under a key that is there
abbrev pub key_at : Tables → Registers → ℕ → ℕ → Outcome Val
key_at T R b c = table_at T R b >>= (λ l. value_at R c >>= (λ k. need (store.read T l k)))

-- is a key there?
abbrev pub has_key_at : Tables → Registers → ℕ → ℕ → Outcome Val
has_key_at T R b c = table_at T R b >>= (λ l. value_at R c >>= (λ k. Ok (truth (is_some (store.read T l k)))))

-- a global that was written before
abbrev pub global_at : Table → ℕ → Outcome Val
global_at G g = need (look (Val.identifier g) G)
