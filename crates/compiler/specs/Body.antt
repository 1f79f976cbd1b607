-- The code of an expression. The answer goes to register t; the registers above t are free. Assumes nothing.
use Rattle.std.specs.Prelude.{ℕ, suc, ◌+◌, ◌-◌, cond, List, [], ◌∷◌, ◌++◌, length, pos, negsuc, Some, None, codes, Option, ◌==◌}
use Rattle.std.specs.Str.{bytes_eq}
use Rattle.store.specs.Val.{Val}
use Rattle.machine.specs.Instr.{Instr}
use Rattle.grammar.specs.Tree.{Expr, Args, Method}
use Rattle.grammar.specs.Measure.{value_of, count}
use Rattle.rube.specs.Classes.{Callee, Classes, parameter_count, lookup, known}
use Rattle.compiler.specs.Layout.{class_key, contents_key, self_register, slots, slot, free, mark, class_global, function_of}
use Rattle.compiler.specs.Pieces.{Code, number, halt_with, nil_into, truth_into, is_nil_into, class_into, send, count_test, marks}

module _ {A : Type 0} (P : Classes A) where
  -- a name is read: one that was never written ends the run
  abbrev pub read_local : ℕ → ℕ → Code
  read_local r t =
      Instr.mov t r
      ∷ Instr.const (suc t) mark
      ∷ Instr.eq (suc t) (suc t) t
      ∷ Instr.if_zero (suc t) (pos 2)
      ∷ halt_with (suc t) 4

  -- a field that was never written is nil
  abbrev pub read_field : List ℕ → ℕ → Code
  read_field x t =
      Instr.const (suc t) (Val.string x)
      ∷ Instr.has_tab (t + 2) self_register (suc t)
      ∷ Instr.if_zero (t + 2) (pos 2)
      ∷ Instr.rd_tab t self_register (suc t)
      ∷ Instr.jmp (pos 1)
      ∷ nil_into t
      ∷ []

  abbrev pub write_field : List ℕ → ℕ → Code
  write_field x t = Instr.const (suc t) (Val.string x) ∷ Instr.wr_tab self_register (suc t) t ∷ []

  -- an object of class C into r, with the registers from s on free
  abbrev pub make_object : List ℕ → ℕ → ℕ → Code
  make_object C r s =
      Instr.mk_tab r
      ∷ Instr.const s class_key
      ∷ Instr.rd_glob (suc s) (class_global P C)
      ∷ Instr.wr_tab r s (suc s)
      ∷ cond (bytes_eq C (codes "Map"))
      (Instr.mk_tab (suc s) ∷ Instr.const s contents_key ∷ Instr.wr_tab r s (suc s) ∷ [])
      []

  abbrev pub make : List ℕ → ℕ → ℕ → Code
  make C r s =
      cond (bytes_eq C (codes "Integer")) (Instr.const r (number 0) ∷ [])
      (cond (bytes_eq C (codes "String")) (Instr.const r (Val.string []) ∷ []) (make_object C r s))

  -- initialize is entered with the object in t + 1 and n arguments behind it
  abbrev pub initialize : Callee A → ℕ → ℕ → Code
  initialize f t n =
      Instr.const t (number n) ∷ Instr.const (t + 2 + n) (Val.identifier (function_of f)) ∷ Instr.call (t + 2 + n) t (t + 1 + n) ∷ []

  -- the object of a class whose arguments stand from t + 2 on; a wrong count is known here
  abbrev pub create : Option (Callee A) → List ℕ → ℕ → ℕ → Code
  create None C n t = cond (n == 0) (make C (suc t) (t + 2) ++ (Instr.mov t (suc t) ∷ [])) (halt_with t 5)
  create (Some f) C n t =
      cond (n == parameter_count f) (make C (suc t) (t + 2 + n) ++ (initialize f t n ++ (Instr.mov t (suc t) ∷ []))) (halt_with t 5)

  -- is the class of what t holds that very one?
  abbrev pub test_class : List ℕ → ℕ → Code
  test_class C t =
      cond (known P C)
      (class_into P (suc t) t ++ (Instr.rd_glob (t + 2) (class_global P C) ∷ Instr.eq (suc t) (suc t) (t + 2) ∷ truth_into t (suc t)))
      (nil_into t ∷ [])

  -- an expression of a body whose names have these slots
  unfoldable mutual
    pub compile : List (List ℕ) → Expr A → ℕ → Code
    compile ns (Expr.int a w) t = Instr.const t (Val.int (value_of w)) ∷ []
    compile ns (Expr.string a w) t = Instr.const t (Val.string w) ∷ []
    compile ns (Expr.nil a) t = nil_into t ∷ []
    compile ns (Expr.self a) t = Instr.mov t self_register ∷ []
    compile ns (Expr.local a x) t = read_local (slot ns x) t
    compile ns (Expr.field a x) t = read_field x t
    -- anything but nil jumps to the first branch, which stands behind the second
    compile ns (Expr.if_then_else a c d e) t =
        compile ns c t
        ++ (
        is_nil_into (suc t) t
        ++ (
        Instr.if_zero (suc t) (pos (suc (length (compile ns e t))))
        ∷ (compile ns e t ++ (Instr.jmp (pos (length (compile ns d t))) ∷ compile ns d t))
        )
        )
    -- a guard that is nil jumps behind the body, and is the answer
    compile ns (Expr.while_do a c b) t =
        compile ns c t
        ++ (
        is_nil_into (suc t) t
        ++ (
        Instr.if_zero (suc t) (pos 1)
        ∷ Instr.jmp (pos (suc (length (compile ns b t))))
        ∷ (compile ns b t ++ (Instr.jmp (negsuc (length (compile ns c t) + 4 + length (compile ns b t))) ∷ []))
        )
        )
    compile ns (Expr.seq a b c) t = compile ns b t ++ compile ns c t
    compile ns (Expr.set_local a x e) t = compile ns e t ++ (Instr.mov (slot ns x) t ∷ [])
    compile ns (Expr.set_field a x e) t = compile ns e t ++ write_field x t
    compile ns (Expr.instance_of a e C) t = compile ns e t ++ test_class C t
    compile ns (Expr.new a C xs) t =
        cond (known P C)
        (cond (bytes_eq C (codes "Bot")) (halt_with t 3) (compiles ns xs (t + 2) ++ create (lookup P C (codes "initialize")) C (count xs) t))
        (halt_with t 2)
    compile ns (Expr.invoke a e x xs) t = compile ns e (suc t) ++ (compiles ns xs (t + 2) ++ send P t x (count xs))

    -- arguments into registers from t on
    pub compiles : List (List ℕ) → Args A → ℕ → Code
    compiles ns Args.none t = []
    compiles ns (Args.more xs e) t = compiles ns xs t ++ compile ns e (t + count xs)

  -- the names of a body that are no parameters hold marks when it begins
  abbrev pub body_code : List (List ℕ) → Expr A → Code
  body_code ps e =
      marks (2 + length ps) (length (slots ps e) - length ps) ++ compile (slots ps e) e (free (slots ps e))

  unfoldable pub method_code : Method A → Code
  method_code m =
      count_test (free (slots m.parameters m.body)) (length m.parameters)
      ++ (body_code m.parameters m.body ++ (Instr.ret (free (slots m.parameters m.body)) ∷ []))
