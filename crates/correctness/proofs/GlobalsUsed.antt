-- Which globals a program uses: nil's, and one for each class. Assumes nothing.
use Rattle.std.proofs.Common.{◌≡◌, ℕ, zero, suc, ◌+◌, ◌-◌, ◌<◌, ◌≤◌, Bool, true, false, cond, eqb, List, [], ◌∷◌, ◌++◌, map, length, Some, None, codes, Option, refl, arith}
use lib.ListN.{length-map, length-reverse}
use Rattle.std.specs.List.{AllByRecursion}
use Rattle.std.specs.Str.{bytes_eq}
use Rattle.std.proofs.ByRecursion.{All-append}
use Rattle.std.proofs.lemmas.Slice.Eq.{bytes_eq-Decides}
use Rattle.std.proofs.lemmas.Bool.{cond_both, or_left, or_right}
use Rattle.machine.specs.Limits.{most_globals}
use Rattle.machine.specs.Instr.{Instr}
use Rattle.grammar.specs.Tree.{Expr, Args, Method}
use Rattle.grammar.specs.Measure.{count}
use Rattle.rube.specs.declared.builtin.Operation.{Operation}
use Rattle.rube.specs.declared.builtin.Operation.TheVariants.{
  Equal,
  ClassName,
  PrintClassName,
  Itself,
  Decimal,
  PrintValue,
  NilText,
  PrintNil,
  Concat,
  Length,
  Arith,
  Find,
  Insert,
  Has,
}
use Rattle.rube.specs.Classes.{Named, Callee, Classes, among, parameter_count, lookup, known, visible, class_names, class_count, all_methods}
use Rattle.compiler.specs.Layout.{contents_key, slots, free, place_in, class_global, operations}
use Rattle.compiler.specs.Pieces.{Code, send, count_test, marks}
use Rattle.compiler.specs.Body.{make_object, make, create, test_class, compile, compiles, body_code, method_code}
use Rattle.compiler.specs.Builtins.{operation_code, operation_function_code}
use Rattle.compiler.specs.Whole.{lay_methods, lay_classes, start_code, close_code, main_code, program}
use Rattle.correctness.specs.Accepted.{most_classes}
use Rattle.correctness.specs.CodeSize.{GlobalBelow, GlobalsBelow}
use Rattle.correctness.proofs.Fitted.{Within}

place_of : (b : Bool) (i n : ℕ) → (b ≡ false → i < n) → cond b 0 (suc i) < suc n
place_of true i n h = omega arith
place_of false i n h = omega (arith, h refl)

-- a name among others has a place
pub place-below : (ns : List (List ℕ)) (x : List ℕ) → among ns x ≡ true → place_in ns x < length ns
place-below [] x h = let z : ◌≡◌ {A = ℕ} 0 1 = cc in absurd (omega arith)
place-below (n ∷ ns) x h = place_of (bytes_eq n x) (place_in ns x) (length ns) (λ e. place-below ns x (rw e at h))

module _ (n : ℕ) where
  -- code whose globals are below n
  abbrev pub Below : Code → Type 0
  Below c = AllByRecursion (GlobalBelow n) c

  below_both : (a b : Code) → Below a → Below b → Below (a ++ b)
  below_both a b = All-append (GlobalBelow n) a b

  below-either : (b : Bool) (x y : Code) → (b ≡ true → Below x) → (b ≡ false → Below y) → Below (cond b x y)
  below-either b x y = cond_both b x y Below

  marks-below : (r k : ℕ) → Below (marks r k)
  marks-below r zero = tt
  marks-below r (suc k) = (tt, marks-below (suc r) k)

operation-below : (n : ℕ) (o : Operation) → Below (suc n) (operation_function_code o)
unfolding operation_code
operation-below n Equal = omega arith
operation-below n ClassName = omega arith
operation-below n PrintClassName = omega arith
operation-below n Itself = omega arith
operation-below n Decimal = omega arith
operation-below n PrintValue = omega arith
operation-below n NilText = omega arith
operation-below n PrintNil = omega arith
operation-below n Concat = omega arith
operation-below n Length = omega arith
operation-below n (Arith o) = omega arith
operation-below n Find = omega arith
operation-below n Insert = omega arith
operation-below n Has = omega arith

module _ {A : Type 0} (P : Classes A) where
  -- nil's global and the classes'
  abbrev pub globals : ℕ
  globals = suc (class_count P)

  -- a class's global is one of them
  pub class-global-below : (C : List ℕ) → known P C ≡ true → class_global P C < globals
  class-global-below C h = omega (arith, place-below (class_names P) C h)

  send-below : (t : ℕ) (x : List ℕ) (n : ℕ) → Below globals (send P t x n)
  unfolding send
  send-below t x n = omega arith

  object-below : (C : List ℕ) (r s : ℕ) → known P C ≡ true → Below globals (make_object P C r s)
  object-below C r s h =
      (tt, (tt, (class-global-below C h, (tt, below-either globals (bytes_eq C (codes "Map")) (Instr.mk_tab (suc s) ∷ Instr.const s contents_key ∷ Instr.wr_tab r s (suc s) ∷ []) [] (λ e. omega arith) (λ e. omega arith)))))

  make-below : (C : List ℕ) (r s : ℕ) → known P C ≡ true → Below globals (make P C r s)
  make-below C r s h =
      below-either globals (bytes_eq C (codes "Integer")) _ _ (λ e. omega arith)
      (λ e. below-either globals (bytes_eq C (codes "String")) _ _ (λ e. omega arith) (λ e. object-below C r s h))

  create-below : (f : Option (Callee A)) (C : List ℕ) (n t : ℕ) → known P C ≡ true → Below globals (create P f C n t)
  create-below None C n t h =
      below-either globals (eqb n 0) _ _
      (λ e. below_both globals (make P C (suc t) (t + 2)) _ (make-below C (suc t) (t + 2) h) (omega arith))
      (λ e. omega arith)
  create-below (Some f) C n t h =
      below-either globals (eqb n (parameter_count f)) _ _
      (λ e. below_both globals (make P C (suc t) (t + 2 + n)) _ (make-below C (suc t) (t + 2 + n) h) (omega arith))
      (λ e. omega arith)

  test_below : (C : List ℕ) (t : ℕ) → Below globals (test_class P C t)
  test_below C t = below-either globals (known P C) _ _ (λ e. let g = class-global-below C e in omega arith) (λ e. omega arith)

  module _ (ns : List (List ℕ)) where
    mutual
      unfolding compile

      -- an expression's code
      pub code_below : (e : Expr A) (t : ℕ) → Below globals (compile P ns e t)
      code_below (Expr.int a w) t = omega arith
      code_below (Expr.nil a) t = omega arith
      code_below (Expr.self a) t = omega arith
      code_below (Expr.string a w) t = omega arith
      code_below (Expr.local a x) t = omega arith
      code_below (Expr.field a x) t = omega arith
      code_below (Expr.set_local a x e) t = below_both globals (compile P ns e t) _ (code_below e t) (omega arith)
      code_below (Expr.set_field a x e) t = below_both globals (compile P ns e t) _ (code_below e t) (omega arith)
      code_below (Expr.if_then_else a c d e) t =
          below_both globals (compile P ns c t) _ (code_below c t)
          (omega arith, (tt, (tt, below_both globals (compile P ns e t) _ (code_below e t) (tt, code_below d t))))
      code_below (Expr.while_do a c d) t =
          below_both globals (compile P ns c t) _ (code_below c t)
          (omega arith, (tt, (tt, (tt, below_both globals (compile P ns d t) _ (code_below d t) (tt, tt)))))
      code_below (Expr.seq a c d) t = below_both globals (compile P ns c t) _ (code_below c t) (code_below d t)
      code_below (Expr.new a C xs) t =
          below-either globals (known P C) _ _
          (λ h. below-either globals (bytes_eq C (codes "Bot")) _ _ (λ e. omega arith)
          (λ e. below_both globals (compiles P ns xs (t + 2)) _ (codes-below xs (t + 2)) (create-below (lookup P C (codes "initialize")) C (count xs) t h)))
          (λ e. omega arith)
      code_below (Expr.instance_of a e C) t = below_both globals (compile P ns e t) _ (code_below e t) (test_below C t)
      code_below (Expr.invoke a e x xs) t =
          below_both globals (compile P ns e (suc t)) _ (code_below e (suc t))
          (below_both globals (compiles P ns xs (t + 2)) _ (codes-below xs (t + 2)) (send-below t x (count xs)))

      pub codes-below : (xs : Args A) (t : ℕ) → Below globals (compiles P ns xs t)
      codes-below Args.none t = tt
      codes-below (Args.more xs e) t = below_both globals (compiles P ns xs t) _ (codes-below xs t) (code_below e (t + count xs))

  body_below : (ps : List (List ℕ)) (e : Expr A) → Below globals (body_code P ps e)
  body_below ps e =
      below_both globals (marks (2 + length ps) (length (slots ps e) - length ps)) _ (marks-below globals (2 + length ps) (length (slots ps e) - length ps)) (code_below (slots ps e) e (free (slots ps e)))

  method-below : (m : Method A) → Below globals (method_code P m)
  unfolding method_code
  method-below m =
      let t = free (slots m.parameters m.body) in
      below_both globals (count_test t (length m.parameters)) _ (omega arith)
      (below_both globals (body_code P m.parameters m.body) _ (body_below m.parameters m.body) (omega arith))

  lay-methods-below : (ms : List (Named A)) → Below globals (lay_methods P ms)
  lay-methods-below [] = tt
  lay-methods-below (m ∷ ms) = (tt, (tt, (tt, lay-methods-below ms)))

  lay-classes-below : (Cs : List (List ℕ)) → Within Cs (class_names P) → Below globals (lay_classes P Cs)
  lay-classes-below [] h = tt
  lay-classes-below (C ∷ Cs) h =
      let here = class-global-below C (h.has C (or_left (bytes_eq C C) (among Cs C) ((bytes_eq-Decides C C).1 refl))) in
      let later : Within Cs (class_names P) = record { has = λ x e. h.has x (or_right (bytes_eq C x) (among Cs x) e) } in
      (tt, (here, (tt, (tt, (tt, below_both globals (lay_methods P (visible P C)) (lay_classes P Cs) (lay-methods-below (visible P C)) (lay-classes-below Cs later))))))

  start-below : Below globals (start_code P)
  start-below = below_both globals (lay_classes P (class_names P)) _ (lay-classes-below (class_names P) (record { has = λ x e. e })) (omega arith)

  close-below : (t : ℕ) → Below globals (close_code P t)
  close-below t = (tt, below_both globals (send P t (codes "to_s") 0) _ (send-below t (codes "to_s") 0) (omega arith))

  main-below : (e : Expr A) → Below globals (main_code P e)
  unfolding main_code
  main-below e =
      below_both globals (start_code P) _ start-below
      (below_both globals (body_code P [] e) _ (body_below [] e) (close-below (free (slots [] e))))

  all-below : {X : Type 0} (f : X → Code) (xs : List X) → ((x : X) → Below globals (f x)) → GlobalsBelow globals (map f xs)
  all-below f [] h = tt
  all-below f (x ∷ xs) h = (h x, all-below f xs h)

  -- the program uses nil's global and those of the classes
  pub globals-below : (e : Expr A) → GlobalsBelow globals (program P e)
  globals-below e = (
    main-below e,
    All-append (Below globals) (map operation_function_code operations) (map (method_code P) (all_methods P)) (all-below operation_function_code operations (operation-below (class_count P))) (all-below (method_code P) (all_methods P) method-below),
  )

  -- with at most 16 added classes the machine has as many
  pub globals-few : length P ≤ most_classes → globals ≤ most_globals
  globals-few h = simp (length-reverse, length-map) (omega arith)
