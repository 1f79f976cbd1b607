-- The code of a rule with its classes. Assumes nothing.
use Rattle.std.specs.Prelude.{ℕ, suc, List, [], ◌∷◌, ◌++◌, map, codes}
use Rattle.store.specs.Val.{Val}
use Rattle.machine.specs.declared.instruction.Kind.TheVariants.{Text}
use Rattle.machine.specs.declared.builtin.Builtin.TheVariants.{PrintValue}
use Rattle.machine.specs.Builtin.{builtin_number}
use Rattle.machine.specs.Instr.{Instr, Program}
use Rattle.grammar.specs.Tree.{Expr}
use Rattle.rube.specs.Classes.{Named, Classes, visible, class_names, all_methods}
use Rattle.compiler.specs.Layout.{class_key, name_key, slots, free, nil_global, class_global, function_of, operations}
use Rattle.compiler.specs.Pieces.{Code, require, send}
use Rattle.compiler.specs.Body.{body_code, method_code}
use Rattle.compiler.specs.Builtins.{operation_function_code}

module _ {A : Type 0} (P : Classes A) where
  -- a pair for each method that the class finds
  abbrev pub lay_methods : List (Named A) → Code
  lay_methods [] = []
  lay_methods (m ∷ ms) =
      Instr.const 3 (Val.string m.name)
      ∷ Instr.const 4 (Val.identifier (function_of m.callee))
      ∷ Instr.wr_tab 2 3 4
      ∷ lay_methods ms

  -- the class tables, each held by its global
  abbrev pub lay_classes : List (List ℕ) → Code
  lay_classes [] = []
  lay_classes (C ∷ Cs) =
      Instr.mk_tab 2
      ∷ Instr.wr_glob (class_global P C) 2
      ∷ Instr.const 3 name_key
      ∷ Instr.const 4 (Val.string C)
      ∷ Instr.wr_tab 2 3 4
      ∷ (lay_methods (visible P C) ++ lay_classes Cs)

  -- an object of a built-in class into a register
  abbrev pub lay_object : ℕ → List ℕ → Code
  lay_object r C =
      Instr.mk_tab r ∷ Instr.const 3 class_key ∷ Instr.rd_glob 4 (class_global P C) ∷ Instr.wr_tab r 3 4 ∷ []

  -- class tables, nil, the top-level self
  abbrev pub start_code : Code
  start_code =
      lay_classes (class_names P)
      ++ (lay_object 2 (codes "Bot") ++ (Instr.wr_glob nil_global 2 ∷ lay_object 1 (codes "Object")))

  -- the value's to_s, which must answer a string; that is printed
  abbrev pub close_code : ℕ → Code
  close_code t =
      Instr.mov (suc t) t
      ∷ (
      send P t (codes "to_s") 0
      ++ (
      Instr.is_kind Text (suc t) t
      ∷ (
      require (suc t) 6
      ++ (Instr.const (suc t) (Val.identifier (builtin_number PrintValue)) ∷ Instr.call (suc t) t t ∷ Instr.ret t ∷ [])
      )
      )
      )

  unfoldable pub main_code : Expr A → Code
  main_code e = start_code ++ (body_code P [] e ++ close_code (free (slots [] e)))

  -- the main function, the built-in operations, the added methods
  abbrev pub program : Expr A → Program
  program e = main_code e ∷ (map operation_function_code operations ++ map (method_code P) (all_methods P))
