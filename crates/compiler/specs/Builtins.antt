-- The functions of the built-in operations: the receiver is in register 1, arguments in 2 and 3. Assumes nothing.
use Rattle.std.specs.Prelude.{ℕ, [], ◌∷◌, ◌++◌, codes}
use Rattle.store.specs.Val.{Val}
use Rattle.machine.specs.declared.instruction.Kind.TheVariants.{Integer, Text}
use Rattle.machine.specs.declared.builtin.Builtin.{Builtin}
use Rattle.machine.specs.declared.builtin.Builtin.TheVariants as own
use Rattle.machine.specs.Builtin.{builtin_number}
use Rattle.machine.specs.Instr.{Instr}
use Rattle.rube.specs.declared.builtin.Operation.{Operation}
use Rattle.rube.specs.declared.builtin.Operation.TheVariants.{
  Equal,
  ClassName,
  PrintClassName,
  Itself,
  Decimal,
  PrintValue,
  NilText,
  PrintNil,
  Concat,
  Length,
  Arith,
  Find,
  Insert,
  Has,
}
use Rattle.compiler.specs.Layout.{class_key, name_key, contents_key}
use Rattle.compiler.specs.Pieces.{Code, nil_into, require, truth_into, count_test}

-- a function of the machine itself, on one register; the answer goes there
abbrev pub ask : Builtin → ℕ → Code
ask b r = Instr.const 4 (Val.identifier (builtin_number b)) ∷ Instr.call 4 r r ∷ []

-- the receiver's class name into register 5
abbrev pub class_name_into : Code
class_name_into = Instr.const 4 class_key ∷ Instr.rd_tab 4 1 4 ∷ Instr.const 5 name_key ∷ Instr.rd_tab 5 4 5 ∷ []

-- what register 5 holds is printed, and nil answered
abbrev pub print_five : Code
print_five = ask own.PrintValue 5 ++ (nil_into 5 ∷ Instr.ret 5 ∷ [])

-- the Map's contents into register 4
abbrev pub contents_into : Code
contents_into = Instr.const 4 contents_key ∷ Instr.rd_tab 4 1 4 ∷ []

unfoldable pub operation_code : Operation → Code
operation_code Equal = Instr.eq 4 1 2 ∷ (truth_into 4 4 ++ (Instr.ret 4 ∷ []))
operation_code ClassName = class_name_into ++ (Instr.ret 5 ∷ [])
operation_code PrintClassName = class_name_into ++ print_five
operation_code Itself = Instr.ret 1 ∷ []
operation_code Decimal = Instr.mov 5 1 ∷ (ask own.ToS 5 ++ (Instr.ret 5 ∷ []))
operation_code PrintValue = Instr.mov 5 1 ∷ print_five
operation_code NilText = Instr.const 5 (Val.string (codes "nil")) ∷ Instr.ret 5 ∷ []
operation_code PrintNil = Instr.const 5 (Val.string (codes "nil")) ∷ print_five
operation_code Concat =
    Instr.is_kind Text 4 2
    ∷ (
    require 4 6
    ++ (
    Instr.mov 5 1
    ∷ Instr.mov 6 2
    ∷ Instr.const 4 (Val.identifier (builtin_number own.Concat))
    ∷ Instr.call 4 5 6
    ∷ Instr.ret 5
    ∷ []
    )
    )
operation_code Length = Instr.mov 5 1 ∷ (ask own.Length 5 ++ (Instr.ret 5 ∷ []))
operation_code (Arith o) = Instr.is_kind Integer 4 2 ∷ (require 4 6 ++ (Instr.arith o 4 1 2 ∷ Instr.ret 4 ∷ []))
operation_code Find = contents_into ++ (Instr.has_tab 5 4 2 ∷ (require 5 7 ++ (Instr.rd_tab 5 4 2 ∷ Instr.ret 5 ∷ [])))
operation_code Insert = contents_into ++ (Instr.wr_tab 4 2 3 ∷ nil_into 5 ∷ Instr.ret 5 ∷ [])
operation_code Has = contents_into ++ (Instr.has_tab 5 4 2 ∷ (truth_into 5 5 ++ (Instr.ret 5 ∷ [])))

abbrev pub operation_parameters : Operation → ℕ
operation_parameters Equal = 1
operation_parameters ClassName = 0
operation_parameters PrintClassName = 0
operation_parameters Itself = 0
operation_parameters Decimal = 0
operation_parameters PrintValue = 0
operation_parameters NilText = 0
operation_parameters PrintNil = 0
operation_parameters Concat = 1
operation_parameters Length = 0
operation_parameters (Arith o) = 1
operation_parameters Find = 1
operation_parameters Insert = 2
operation_parameters Has = 1

abbrev pub operation_function_code : Operation → Code
operation_function_code o = count_test 4 (operation_parameters o) ++ operation_code o
