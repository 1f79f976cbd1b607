-- The methods that stand before any class is added: twenty-four pairs of class and method. Assumes nothing.
use Rattle.std.specs.Prelude.{ℕ, List, [], ◌∷◌, map, codes}
use Rattle.machine.specs.declared.arith.Op.TheVariants.{Add, Sub, Mul, Div}
use Rattle.rube.specs.declared.builtin.BuiltinClass.{BuiltinClass}
use Rattle.rube.specs.declared.builtin.BuiltinClass.TheVariants.{Object, Str, Integer, Map, Bot}
use Rattle.rube.specs.declared.builtin.Operation.{Operation}
use Rattle.rube.specs.declared.builtin.Operation.TheVariants.{
  Equal,
  ClassName,
  PrintClassName,
  Itself,
  Decimal,
  PrintValue,
  NilText,
  PrintNil,
  Concat,
  Length,
  Arith,
  Find,
  Insert,
  Has,
}
use Rattle.rube.specs.declared.builtin.Builtin.{Builtin}

abbrev row : BuiltinClass → ℕ → Operation → Builtin
row c n o = record { class = c; parameters = n; operation = o }

abbrev pub table : List Builtin
table =
    row Object 1 Equal
    ∷ row Object 0 ClassName
    ∷ row Object 0 PrintClassName
    ∷ row Str 1 Equal
    ∷ row Str 0 Itself
    ∷ row Str 0 PrintValue
    ∷ row Str 1 Concat
    ∷ row Str 0 Length
    ∷ row Integer 1 Equal
    ∷ row Integer 0 Decimal
    ∷ row Integer 0 PrintValue
    ∷ row Integer 1 (Arith Add)
    ∷ row Integer 1 (Arith Sub)
    ∷ row Integer 1 (Arith Mul)
    ∷ row Integer 1 (Arith Div)
    ∷ row Map 1 Equal
    ∷ row Map 0 ClassName
    ∷ row Map 0 PrintClassName
    ∷ row Map 1 Find
    ∷ row Map 2 Insert
    ∷ row Map 1 Has
    ∷ row Bot 1 Equal
    ∷ row Bot 0 NilText
    ∷ row Bot 0 PrintNil
    ∷ []

-- what a program calls an operation by
abbrev pub name_of : Operation → List ℕ
name_of Equal = codes "equal?"
name_of ClassName = codes "to_s"
name_of PrintClassName = codes "print"
name_of Itself = codes "to_s"
name_of Decimal = codes "to_s"
name_of PrintValue = codes "print"
name_of NilText = codes "to_s"
name_of PrintNil = codes "print"
name_of Concat = codes "+"
name_of Length = codes "length"
name_of (Arith Add) = codes "+"
name_of (Arith Sub) = codes "-"
name_of (Arith Mul) = codes "*"
name_of (Arith Div) = codes "/"
name_of Find = codes "find"
name_of Insert = codes "insert"
name_of Has = codes "has"

-- the methods' names, row by row
abbrev pub names : List (List ℕ)
names = map (λ b. name_of b.operation) table

abbrev pub class_name : BuiltinClass → List ℕ
class_name Object = codes "Object"
class_name Str = codes "String"
class_name Integer = codes "Integer"
class_name Map = codes "Map"
class_name Bot = codes "Bot"

abbrev pub builtin_classes : List BuiltinClass
builtin_classes = Object ∷ Str ∷ Integer ∷ Map ∷ Bot ∷ []
