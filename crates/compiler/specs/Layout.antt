-- Where the code keeps what: registers of a body, globals, functions, keys of tables. Assumes nothing.
use Rattle.std.specs.Prelude.{ℕ, suc, ◌+◌, cond, List, [], ◌∷◌, length, codes}
use Rattle.std.specs.Str.{bytes_eq}
use Rattle.machine.specs.declared.arith.Op.TheVariants.{Add, Sub, Mul, Div}
use Rattle.store.specs.Val.{Val}
use Rattle.grammar.specs.Tree.{Expr}
use Rattle.grammar.specs.Measure.{names_after}
use Rattle.rube.specs.declared.builtin.Operation.{Operation}
use Rattle.rube.specs.declared.builtin.Operation.TheVariants.{
  Equal,
  ClassName,
  PrintClassName,
  Itself,
  Decimal,
  PrintValue,
  NilText,
  PrintNil,
  Concat,
  Length,
  Arith,
  Find,
  Insert,
  Has,
}
use Rattle.rube.specs.Classes.{Callee, Classes, class_names}

-- a table's own keys; no field's and no method's name begins with `#`
abbrev pub class_key : Val
class_key = Val.string (codes "#class")

abbrev pub name_key : Val
name_key = Val.string (codes "#name")

abbrev pub contents_key : Val
contents_key = Val.string (codes "#contents")

-- a caller passes how many arguments there are, then the receiver, then the arguments
abbrev pub count_register : ℕ
count_register = 0

abbrev pub self_register : ℕ
self_register = 1

-- the names that have registers, from register 2 on: parameters, then the other names of the body
abbrev pub slots : {A : Type 0} → List (List ℕ) → Expr A → List (List ℕ)
slots ps e = names_after ps e

-- the place of the first equal name
abbrev pub place_in : List (List ℕ) → List ℕ → ℕ
place_in [] x = 0
place_in (y ∷ ys) x = cond (bytes_eq y x) 0 (suc (place_in ys x))

abbrev pub slot : List (List ℕ) → List ℕ → ℕ
slot ns x = 2 + place_in ns x

-- the registers from here on are free
abbrev pub free : List (List ℕ) → ℕ
free ns = 2 + length ns

-- a name that was never written holds a mark: no value of the language is an identifier
abbrev pub mark : Val
mark = Val.identifier 0

-- nil and the class tables are globals
abbrev pub nil_global : ℕ
nil_global = 0

abbrev pub class_global : {A : Type 0} → Classes A → List ℕ → ℕ
class_global P C = suc (place_in (class_names P) C)

-- the built-in operations, one function each, behind the main function
abbrev pub operations : List Operation
operations =
    Equal
    ∷ ClassName
    ∷ PrintClassName
    ∷ Itself
    ∷ Decimal
    ∷ PrintValue
    ∷ NilText
    ∷ PrintNil
    ∷ Concat
    ∷ Length
    ∷ Arith Add
    ∷ Arith Sub
    ∷ Arith Mul
    ∷ Arith Div
    ∷ Find
    ∷ Insert
    ∷ Has
    ∷ []

abbrev pub operation_function : Operation → ℕ
operation_function Equal = 1
operation_function ClassName = 2
operation_function PrintClassName = 3
operation_function Itself = 4
operation_function Decimal = 5
operation_function PrintValue = 6
operation_function NilText = 7
operation_function PrintNil = 8
operation_function Concat = 9
operation_function Length = 10
operation_function (Arith Add) = 11
operation_function (Arith Sub) = 12
operation_function (Arith Mul) = 13
operation_function (Arith Div) = 14
operation_function Find = 15
operation_function Insert = 16
operation_function Has = 17

-- the added methods stand behind them
abbrev pub function_of : {A : Type 0} → Callee A → ℕ
function_of (Callee.built_in n o) = operation_function o
function_of (Callee.written i m) = 18 + i
