-- How long the code of each form is, and that the whole program's is within its bound. Assumes nothing.
use Rattle.std.proofs.Common.{◌≡◌, ℕ, zero, suc, ◌+◌, ◌*◌, ◌≤◌, Bool, cond, eqb, List, [], ◌∷◌, ◌++◌, map, length, Some, None, codes, Option, refl, ap, le_trans, le_of_eq, arith, length-append}
use mathlib.Core.List.{map-append}
use Rattle.std.specs.Str.{bytes_eq}
use Rattle.std.proofs.lemmas.Bool.{cond_both}
use Rattle.machine.specs.Instr.{Instr, Program}
use Rattle.grammar.specs.Tree.{Expr, Args, Method}
use Rattle.grammar.specs.Limits.{name_limit}
use Rattle.grammar.specs.Measure.{nodes, arg_nodes, method_nodes, count, BodyWithin, MethodsWithin}
use Rattle.rube.specs.Classes.{Named, Callee, Classes, parameter_count, lookup, known, visible, visible_in, class_names, class_count, pair_count, added_methods, all_methods}
use Rattle.rube.specs.Bounds.{class_nodes, code_bound}
use Rattle.compiler.specs.Layout.{contents_key, nil_global, slots, free, operations}
use Rattle.compiler.specs.Pieces.{Code, send, count_test, marks}
use Rattle.compiler.specs.Body.{make_object, make, create, test_class, compile, compiles, body_code, method_code}
use Rattle.compiler.specs.Builtins.{operation_code, operation_function_code}
use Rattle.compiler.specs.Whole.{lay_methods, lay_classes, lay_object, start_code, close_code, main_code, program}
use Rattle.correctness.specs.CodeSize.{instructions, ClassesWithin}
use Rattle.correctness.proofs.Fitted.{slots-few}

pub marks-length : (r n : ℕ) → length (marks r n) ≡ n
marks-length r zero = refl
marks-length r (suc n) = ap suc (marks-length (suc r) n)

pub instructions-append : (a b : Program) → instructions (a ++ b) ≡ instructions a + instructions b
instructions-append [] b = omega arith
instructions-append (c ∷ a) b = omega (arith, instructions-append a b)

-- the built-in operations, counted
pub operations-length : instructions (map operation_function_code operations) ≡ 202
unfolding operation_code
operations-length = refl

-- three pieces of code
parts-length : (a b c : Code) {x y z : ℕ} → length a ≤ x → length b ≤ y → length c ≤ z → length (a ++ (b ++ c)) ≤ x + y + z
parts-length a b c h g k = simp length-append (omega arith)

-- two ways, each of at most n instructions
either-length : (b : Bool) (x y : Code) {n : ℕ} → length x ≤ n → length y ≤ n → length (cond b x y) ≤ n
either-length b x y {n} h g = cond_both b x y (λ c. length c ≤ n) (λ e. h) (λ e. g)

module _ {A : Type 0} (P : Classes A) where
  -- a call: the test for the class takes ten
  pub send-length : (t : ℕ) (x : List ℕ) (n : ℕ) → length (send P t x n) ≡ 19
  unfolding send
  send-length t x n = refl

  object-length : (C : List ℕ) (r s : ℕ) → length (make_object P C r s) ≤ 7
  object-length C r s = omega (arith, either-length (bytes_eq C (codes "Map")) (Instr.mk_tab (suc s) ∷ Instr.const s contents_key ∷ Instr.wr_tab r s (suc s) ∷ []) [] {n = 3} (omega arith) (omega arith))

  make-length : (C : List ℕ) (r s : ℕ) → length (make P C r s) ≤ 7
  make-length C r s =
      either-length (bytes_eq C (codes "Integer")) _ _ (omega arith)
      (either-length (bytes_eq C (codes "String")) _ _ (omega arith) (object-length C r s))

  create-length : (f : Option (Callee A)) (C : List ℕ) (n t : ℕ) → length (create P f C n t) ≤ 11
  create-length None C n t =
      either-length (eqb n 0) _ _ (simp length-append (omega (arith, make-length C (suc t) (t + 2)))) (omega arith)
  create-length (Some f) C n t =
      either-length (eqb n (parameter_count f)) _ _ (simp length-append (omega (arith, make-length C (suc t) (t + 2 + n)))) (omega arith)

  test-length : (C : List ℕ) (t : ℕ) → length (test_class P C t) ≤ 16
  test-length C t = either-length (known P C) _ _ (omega arith) (omega arith)

  module _ (ns : List (List ℕ)) where
    mutual
      unfolding compile

      -- 40 instructions for each node
      pub code-length : (e : Expr A) (t : ℕ) → length (compile P ns e t) ≤ 40 * nodes e
      code-length (Expr.int a w) t = omega arith
      code-length (Expr.nil a) t = omega arith
      code-length (Expr.self a) t = omega arith
      code-length (Expr.string a w) t = omega arith
      code-length (Expr.local a x) t = omega arith
      code-length (Expr.field a x) t = omega arith
      code-length (Expr.set_local a x e) t = simp length-append (omega (arith, code-length e t))
      code-length (Expr.set_field a x e) t = simp length-append (omega (arith, code-length e t))
      code-length (Expr.if_then_else a c d e) t =
          simp length-append (omega (arith, code-length c t, code-length d t, code-length e t))
      code-length (Expr.while_do a c d) t = simp length-append (omega (arith, code-length c t, code-length d t))
      code-length (Expr.seq a c d) t = simp length-append (omega (arith, code-length c t, code-length d t))
      code-length (Expr.new a C xs) t =
          either-length (known P C) _ _
          (either-length (bytes_eq C (codes "Bot")) _ _ (omega arith)
          (simp length-append (omega (arith, codes-length xs (t + 2), create-length (lookup P C (codes "initialize")) C (count xs) t))))
          (omega arith)
      code-length (Expr.instance_of a e C) t = simp length-append (omega (arith, code-length e t, test-length C t))
      code-length (Expr.invoke a e x xs) t =
          simp length-append (omega (arith, code-length e (suc t), codes-length xs (t + 2), send-length t x (count xs)))

      pub codes-length : (xs : Args A) (t : ℕ) → length (compiles P ns xs t) ≤ 40 * arg_nodes xs
      codes-length Args.none t = omega arith
      codes-length (Args.more xs e) t = simp length-append (omega (arith, codes-length xs t, code-length e (t + count xs)))

  -- a body's code: its marks and its nodes'
  pub body-length : {ps : List (List ℕ)} {e : Expr A} → BodyWithin ps e → length (body_code P ps e) ≤ name_limit + 40 * nodes e
  body-length {ps = ps} {e = e} h =
      simp (length-append, marks-length) (omega (arith, slots-few h, code-length (slots ps e) e (free (slots ps e))))

  -- a method's: 32 more than its nodes'
  pub method-length : (m : Method A) → BodyWithin m.parameters m.body → length (method_code P m) ≤ 32 + 40 * nodes m.body
  unfolding method_code
  method-length m h =
      let t = free (slots m.parameters m.body) in
      le_trans
      (parts-length (count_test t (length m.parameters)) (body_code P m.parameters m.body) (Instr.ret t ∷ []) {x = 6} {z = 1} (omega arith) (body-length h) (omega arith))
      (omega arith)

  methods-length : (ms : List (Method A)) → MethodsWithin ms → instructions (map (method_code P) ms) ≤ 32 * length ms + 40 * method_nodes ms
  methods-length [] h = omega arith
  methods-length (m ∷ ms) h = omega (arith, method-length m h.0, methods-length ms h.1)

  -- the added methods of all classes
  pub added-length : (Q : Classes A) → ClassesWithin Q → instructions (map (method_code P) (all_methods Q)) ≤ 32 * added_methods Q + 40 * class_nodes Q
  added-length [] h = omega arith
  added-length (K ∷ Q) h =
      simp (map-append, instructions-append) (omega (arith, methods-length K.methods h.0, added-length Q h.1))

  lay-methods-length : (ms : List (Named A)) → length (lay_methods P ms) ≡ 3 * length ms
  lay-methods-length [] = refl
  lay-methods-length (m ∷ ms) = omega (arith, lay-methods-length ms)

  lay-classes-length : (Cs : List (List ℕ)) → length (lay_classes P Cs) ≡ 5 * length Cs + 3 * visible_in P Cs
  lay-classes-length [] = refl
  lay-classes-length (C ∷ Cs) =
      simp length-append (omega (arith, lay-methods-length (visible P C), lay-classes-length Cs))

  -- the class tables, nil and the top-level self, for any classes
  start_of : (Cs : List (List ℕ)) → length (lay_classes P Cs ++ (lay_object P 2 (codes "Bot") ++ (Instr.wr_glob nil_global 2 ∷ lay_object P 1 (codes "Object")))) ≡ 5 * length Cs + 3 * visible_in P Cs + 9
  start_of Cs = simp length-append (omega (arith, lay-classes-length Cs))

  -- start-up: 5 instructions for each class, 3 for each pair, and two objects
  pub start-length : length (start_code P) ≡ 5 * class_count P + 3 * pair_count P + 9
  start-length = start_of (class_names P)

  -- the closing call of to_s
  pub close-length : (t : ℕ) → length (close_code P t) ≡ 28
  close-length t = simp length-append (omega (arith, send-length t (codes "to_s") 0))

  -- the main function's
  pub main-length : {e : Expr A} → BodyWithin [] e → length (main_code P e) ≤ 40 * nodes e + 8 * (class_count P + pair_count P) + 53
  unfolding main_code
  main-length {e = e} h =
      let t = free (slots [] e) in
      le_trans
      (parts-length (start_code P) (body_code P [] e) (close_code P t) (le_of_eq start-length) (body-length h) (le_of_eq (close-length t)))
      (omega arith)

  -- the whole program is within its bound
  pub code-bounded : {e : Expr A} → ClassesWithin P → BodyWithin [] e → instructions (program P e) ≤ code_bound P e
  code-bounded {e = e} k h =
      simp instructions-append (omega (arith, main-length h, operations-length, added-length P k))
