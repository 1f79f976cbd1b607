-- The code of every expression follows its evaluation, at every clock. Assumes nothing.
use Rattle.std.proofs.Common.{ℕ, zero, suc, arith}
use Rattle.std.specs.List.{AllByRecursion}
use Rattle.store.specs.Tables.{Table}
use Rattle.machine.specs.Limits.{Limits}
use Rattle.machine.proofs.Runs.{run_none}
use Rattle.grammar.specs.Tree.{Expr, Args}
use Rattle.rube.specs.Classes.{Classes}
use Rattle.rube.specs.Heap.{Setting}
use Rattle.rube.specs.Meaning.{Eval, eval_at, no_clock}
use Rattle.compiler.specs.Whole.{program}
use Rattle.correctness.specs.Accepted.{Accepted, Few}
use Rattle.correctness.specs.CodeSize.{ClassesWithin}
use Rattle.correctness.specs.Spelled.{SpelledClass}
use Rattle.correctness.proofs.Relation.{Globals}
use Rattle.correctness.proofs.Following.{sout}
use Rattle.correctness.proofs.Judged.{Good}
use Rattle.correctness.proofs.Forms.{Ok, int-good, string-good, nil-good, self-good, local-good, set_local-good, seq-good, if-good, while-good}
use Rattle.correctness.proofs.Fields.{field-good, instance_of-good}
use Rattle.correctness.proofs.Calls.{Oks, Callables, none-good, more-good, invoke-good}
use Rattle.correctness.proofs.Objects.{set_field-good}
use Rattle.correctness.proofs.News.{new-good}
use Rattle.correctness.proofs.Called.{callables}

module _ {A : Type 0} (P : Classes A) (L : Limits) (main : Expr A) (G : Table) (globals : Globals P G) (accepted : Accepted P) (few : Few P) (within : ClassesWithin P) (spelled : AllByRecursion SpelledClass P) where
  abbrev at-limits : Setting A
  at-limits = record { classes = P; limits = L }

  module _ (k : ℕ) (again : Eval A) (rec : (e : Expr A) → Good P L (program P main) G k again e) where
    called : Callables P L (program P main) G globals k again
    called = callables P L main G globals k again rec accepted few within spelled

    mutual
      expression-good : (e : Expr A) → Ok P L (program P main) G globals k again e
      expression-good (Expr.int a w) = int-good P L (program P main) G globals k again a w
      expression-good (Expr.nil a) = nil-good P L (program P main) G globals k again a
      expression-good (Expr.self a) = self-good P L (program P main) G globals k again a
      expression-good (Expr.string a w) = string-good P L (program P main) G globals k again a w
      expression-good (Expr.local a x) = local-good P L (program P main) G globals k again a x
      expression-good (Expr.set_local a x e) = set_local-good P L (program P main) G globals k again a x e (expression-good e)
      expression-good (Expr.field a x) = field-good P L (program P main) G globals k again a x
      expression-good (Expr.set_field a x e) = set_field-good P L (program P main) G globals k again a x e (expression-good e)
      expression-good (Expr.if_then_else a c d e) = if-good P L (program P main) G globals k again a c d e (expression-good c) (expression-good d) (expression-good e)
      expression-good (Expr.while_do a c d) = while-good P L (program P main) G globals k again rec a c d (expression-good c) (expression-good d)
      expression-good (Expr.seq a c d) = seq-good P L (program P main) G globals k again a c d (expression-good c) (expression-good d)
      expression-good (Expr.new a D xs) = new-good P L (program P main) G globals k again called a D xs (arguments-good xs)
      expression-good (Expr.instance_of a e D) = instance_of-good P L (program P main) G globals k again a e D (expression-good e)
      expression-good (Expr.invoke a e x xs) = invoke-good P L (program P main) G globals k again called a e x xs (expression-good e) (arguments-good xs)

      arguments-good : (xs : Args A) → Oks P L (program P main) G globals k again xs
      arguments-good Args.none = none-good P L (program P main) G globals k again
      arguments-good (Args.more xs e) = more-good P L (program P main) G globals k again xs e (arguments-good xs) (expression-good e)

  -- without a clock nothing is claimed
  clockless : (e : Expr A) → Good P L (program P main) G 0 no_clock e
  clockless e = record { sim = λ h b g. sout 0 _ run_none (omega arith) }

  -- at clock k every loop and call inside is met by the clock below it
  pub good-at : (k : ℕ) (e : Expr A) → Good P L (program P main) G (suc k) (eval_at at-limits k) e
  unfolding eval_at
  good-at zero e = expression-good 0 no_clock clockless e
  good-at (suc k) e = expression-good (suc k) (eval_at at-limits k) (good-at k) e

  -- and every method that is found can be called there
  pub called_at : (k : ℕ) → Callables P L (program P main) G globals (suc k) (eval_at at-limits k)
  called_at k = called (suc k) (eval_at at-limits k) (good-at k)
