-- What the built-in methods do. Their arguments are as many as the table says. Assumes nothing.
use Rattle.std.specs.Prelude.{ℕ, suc, List, ◌++◌, length, pos, is_some, Some, None, Ok, Err, codes, Option, Result}
use Rattle.std.specs.Fmt.{signed_decimal}
use Rattle.store.specs.Val.{Val, equal_val}
use Rattle.store.specs.Tables.{look}
use Rattle.machine.specs.declared.ending.Ending.{Ending}
use Rattle.machine.specs.declared.ending.Ending.TheVariants.{WrongArgumentKind, NoSuchKey, NoTableSpace}
use Rattle.machine.specs.Effects.{charge, print}
use Rattle.machine.specs.Arith.{arith}
use Rattle.machine.specs.Builtin.{integer_in, string_in, shown}
use Rattle.rube.specs.declared.builtin.Operation.{Operation}
use Rattle.rube.specs.declared.builtin.Operation.TheVariants.{
  Equal,
  ClassName,
  PrintClassName,
  Itself,
  Decimal,
  PrintValue,
  NilText,
  PrintNil,
  Concat,
  Length,
  Arith,
  Find,
  Insert,
  Has,
}
use Rattle.rube.specs.Heap.{Setting, nil, truth, class_of, fields_of, fits, new_pairs, put_at}
use Rattle.rube.specs.Evaluation.{State, Res, ◌>>=◌, with_heap, outcome, effect, unless}

-- an argument of another kind than is wanted
abbrev pub argument : {A : Type 0} → Result A Ending → Result A Ending
argument (Ok x) = Ok x
argument (Err e) = Err WrongArgumentKind

-- a string is charged when it is made
abbrev pub make_string : List ℕ → State → Res Val
make_string t s = effect (charge (length t) s.effects) s >>= (λ _ s'. Res.val (Val.string t) s')

-- print answers nil
abbrev pub print_text : List ℕ → State → Res Val
print_text t s = effect (print t s.effects) s >>= (λ _ s'. Res.val nil s')

-- a Map's contents stand right behind it
abbrev pub map_of : Val → ℕ
map_of (Val.int n) = 0
map_of (Val.string t) = 0
map_of (Val.identifier g) = 0
map_of (Val.location l) = suc l

abbrev pub keyed : Option Val → State → Res Val
keyed None s = Res.end NoSuchKey s
keyed (Some v) s = Res.val v s

module _ {A : Type 0} where
  unfoldable pub perform : Setting A → Operation → Val → Val → Val → State → Res Val
  -- strings and integers are equal by content, all else by location
  perform P Equal r v w s = Res.val (truth (equal_val r v)) s
  perform P ClassName r v w s = Res.val (Val.string (class_of s.heap r)) s
  perform P PrintClassName r v w s = print_text (class_of s.heap r) s
  perform P Itself r v w s = Res.val r s
  perform P Decimal r v w s = outcome (integer_in r) s >>= (λ n. make_string (signed_decimal n))
  perform P PrintValue r v w s = outcome (shown r) s >>= print_text
  perform P NilText r v w s = Res.val (Val.string (codes "nil")) s
  perform P PrintNil r v w s = print_text (codes "nil") s
  perform P Concat r v w s =
      outcome (string_in r) s >>= (λ t s'. outcome (argument (string_in v)) s' >>= (λ u. make_string (t ++ u)))
  perform P Length r v w s = outcome (string_in r) s >>= (λ t. Res.val (Val.int (pos (length t))))
  perform P (Arith o) r v w s =
      outcome (integer_in r) s
      >>= (λ x s'. outcome (argument (integer_in v)) s' >>= (λ y s''. outcome (arith o x y) s'' >>= (λ z. Res.val (Val.int z))))
  perform P Find r v w s = keyed (look v (fields_of s.heap (map_of r))) s
  perform P Insert r v w s =
      unless NoTableSpace (fits P s.heap 0 (new_pairs v (fields_of s.heap (map_of r)))) s
      (Res.val nil (with_heap (put_at s.heap (map_of r) v w) s))
  perform P Has r v w s = Res.val (truth (is_some (look v (fields_of s.heap (map_of r))))) s
