-- Every method that a class finds can be called. Assumes nothing.
use Rattle.std.proofs.Common.{◌≡◌, ℕ, false, List, Some, codes, sym}
use Rattle.std.specs.List.{AllByRecursion}
use Rattle.std.specs.Str.{bytes_eq}
use Rattle.std.proofs.lemmas.Bool.{false≢true}
use Rattle.store.specs.Val.{Val}
use Rattle.store.specs.Tables.{Table}
use Rattle.machine.specs.Limits.{Limits}
use Rattle.grammar.specs.Tree.{Expr, Method}
use Rattle.rube.specs.declared.builtin.BuiltinClass.{BuiltinClass}
use Rattle.rube.specs.declared.builtin.BuiltinClass.TheVariants.{Str, Integer, Map}
use Rattle.rube.specs.Builtin.{class_name}
use Rattle.rube.specs.Classes.{Callee, Classes, lookup}
use Rattle.rube.specs.Heap.{Heap, class_of}
use Rattle.rube.specs.Meaning.{Eval}
use Rattle.compiler.specs.Whole.{program}
use Rattle.correctness.specs.Accepted.{Accepted, Few}
use Rattle.correctness.specs.CodeSize.{ClassesWithin}
use Rattle.correctness.specs.Spelled.{SpelledClass}
use Rattle.correctness.proofs.Relation.{Globals, Fine, integer, text, object, Self, self}
use Rattle.correctness.proofs.Loaded.{operation-loaded, method-loaded}
use Rattle.correctness.proofs.Lookup.{found-written, found-unlike, found-function}
use Rattle.correctness.proofs.Fitted.{method-fitted}
use Rattle.correctness.proofs.Judged.{Good}
use Rattle.correctness.proofs.Calls.{Callable, Callables}
use Rattle.correctness.proofs.Methods.{written_then}
use Rattle.correctness.proofs.Operations.{built_in-callable}

module _ {A : Type 0} (P : Classes A) (L : Limits) (main : Expr A) (G : Table) (globals : Globals P G) where
  -- what is of no built-in class is an object, and no Map
  self-of : {H : Heap} {r : Val} → Fine P H r → ((b : BuiltinClass) → bytes_eq (class_of H r) (class_name b) ≡ false) → Self P H r
  self-of integer unlike = absurd (false≢true (sym (unlike Integer)))
  self-of text unlike = absurd (false≢true (sym (unlike Str)))
  self-of {H = H} (object {l = l} {C = C} i n) unlike =
      let m : bytes_eq C (codes "Map") ≡ false = rw i at (unlike Map) in
      self i m n

  -- a method that a class defines can be called
  written-callable : (k : ℕ) (again : Eval A) → ((e : Expr A) → Good P L (program P main) G k again e) → Accepted P → Few P → ClassesWithin P → AllByRecursion SpelledClass P
      → (D x : List ℕ) (i : ℕ) (m : Method A) → lookup P D x ≡ Some (Callee.written i m) → Callable P L (program P main) G globals k again (Callee.written i m)
  written-callable k again rec accepted few within spelled D x i m h =
      let there = found-written P D x i m h in
      record {
        function = found-function P D x (Callee.written i m) few h;
        sim = λ s r vs y d call below frames found w ws sound space.
            written_then P L (program P main) G globals k again s r vs d i m rec (method-fitted P i m within spelled there) (method-loaded P main i m there).1
            call below frames (self-of w (found-unlike P (class_of s.heap r) y i m accepted found)) ws sound space;
      }

  pub callables : (k : ℕ) (again : Eval A) → ((e : Expr A) → Good P L (program P main) G k again e) → Accepted P → Few P → ClassesWithin P → AllByRecursion SpelledClass P
      → Callables P L (program P main) G globals k again
  callables k again rec accepted few within spelled D x (Callee.built_in n o) h = built_in-callable P L (program P main) G globals k again accepted few (operation-loaded P main) D x n o h
  callables k again rec accepted few within spelled D x (Callee.written i m) h = written-callable k again rec accepted few within spelled D x i m h
