-- The code of each function stands in the compiled program. Assumes nothing.
use Rattle.std.proofs.Common.{◌≡◌, ℕ, zero, suc, ◌+◌, List, [], ◌∷◌, ◌++◌, map, length, get_or, Some, refl, ap, ◌∙◌, append_assoc, arith, length-append, get_or-append-add}
use Rattle.std.specs.List.{slice_get}
use Rattle.machine.specs.declared.arith.Op.TheVariants.{Add, Sub, Mul, Div}
use Rattle.machine.specs.Instr.{Instr, Program, fetch}
use Rattle.grammar.specs.Tree.{Expr, Method}
use Rattle.rube.specs.declared.builtin.Operation.{Operation}
use Rattle.rube.specs.declared.builtin.Operation.TheVariants.{
  Equal,
  ClassName,
  PrintClassName,
  Itself,
  Decimal,
  PrintValue,
  NilText,
  PrintNil,
  Concat,
  Length,
  Arith,
  Find,
  Insert,
  Has,
}
use Rattle.rube.specs.Classes.{Classes, all_methods}
use Rattle.compiler.specs.Layout.{operations, operation_function}
use Rattle.compiler.specs.Body.{method_code}
use Rattle.compiler.specs.Builtins.{operation_function_code}
use Rattle.compiler.specs.Whole.{main_code, program}
use Rattle.correctness.proofs.Segments.{Stands, Seg}

nth_here : {X : Type 0} (a : List X) (x : X) (b : List X) → slice_get (a ++ (x ∷ b)) (length a) ≡ Some x
nth_here [] x b = refl
nth_here (y ∷ a) x b = nth_here a x b

stands_from : (C : Program) (f : ℕ) (w a c : List Instr) → get_or C f [] ≡ w → a ++ c ≡ w → (p q : ℕ) → p ≡ length a → q ≡ p + length c → Stands C f p c q
unfolding fetch
stands_from C f w a [] h e p q hp hq = omega arith
stands_from C f w a (i ∷ c) h e p q hp hq = (
  record { is = rw (h, ← e, hp) (nth_here a i c) },
  stands_from C f w (a ++ (i ∷ [])) c h (append_assoc a (i ∷ []) c ∙ e) (suc p) q (simp length-append (omega arith)) (omega arith),
)

-- a function's code stands in it, from its first place on
pub whole : (C : Program) (f : ℕ) (c : List Instr) → get_or C f [] ≡ c → Seg C f 0 c (length c)
whole C f c h = record { is = stands_from C f c [] c h refl 0 (length c) refl (omega arith) }

get_d_map : {X Y : Type 0} (g : X → Y) (d : Y) (xs : List X) (i : ℕ) (x : X) → slice_get xs i ≡ Some x → get_or (map g xs) i d ≡ g x
get_d_map g d [] i x h = let z : ◌≡◌ {A = ℕ} 0 1 = cc in absurd (omega arith)
get_d_map g d (y ∷ xs) zero x h = ap g (cc)
get_d_map g d (y ∷ xs) (suc i) x h = get_d_map g d xs i x h

module _ {A : Type 0} (P : Classes A) (e : Expr A) where
  -- the main function
  pub main-loaded : (q : ℕ) × Seg (program P e) 0 0 (main_code P e) q
  main-loaded = (_, whole (program P e) 0 (main_code P e) refl)

  operation-at : (o : Operation) → get_or (program P e) (operation_function o) [] ≡ operation_function_code o
  operation-at Equal = refl
  operation-at ClassName = refl
  operation-at PrintClassName = refl
  operation-at Itself = refl
  operation-at Decimal = refl
  operation-at PrintValue = refl
  operation-at NilText = refl
  operation-at PrintNil = refl
  operation-at Concat = refl
  operation-at Length = refl
  operation-at (Arith Add) = refl
  operation-at (Arith Sub) = refl
  operation-at (Arith Mul) = refl
  operation-at (Arith Div) = refl
  operation-at Find = refl
  operation-at Insert = refl
  operation-at Has = refl

  -- a built-in operation's function
  pub operation-loaded : (o : Operation) → (q : ℕ) × Seg (program P e) (operation_function o) 0 (operation_function_code o) q
  operation-loaded o = (_, whole (program P e) (operation_function o) (operation_function_code o) (operation-at o))

  -- an added method's function
  pub method-loaded : (i : ℕ) (m : Method A) → slice_get (all_methods P) i ≡ Some m → (q : ℕ) × Seg (program P e) (18 + i) 0 (method_code P m) q
  method-loaded i m h = (
    _,
    whole (program P e) (18 + i) (method_code P m)
        (get_or-append-add (main_code P e ∷ map operation_function_code operations) (map (method_code P) (all_methods P)) i [] ∙ get_d_map (method_code P) [] (all_methods P) i m h),
  )
