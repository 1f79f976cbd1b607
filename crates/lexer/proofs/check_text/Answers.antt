use Rattle.std.proofs.Common.{◌≡◌, ℕ, Some, Option, Result, length, List, sym, ap, ◌∙◌}
use Rattle.std.proofs.lemmas.Result.{err_from_is_err_and}
use Rattle.lexer.specs.declared.token.Lexed.{Lexed}
use Rattle.lexer.specs.declared.token.Stray.{Stray}
use Rattle.lexer.specs.Lexing.{next, told, behind}
use Rattle.lexer.specs.Tokens.{refused}
use Rattle.lexer.proofs.Reading.{law}
use Rattle.lexer.proofs.Onward.{Known, known_by}
use Rattle.lexer.proofs.check_text.Goals as goal

-- what an item at hand says of the rest
step : (text own : List ℕ) (at : ℕ) (r s : Option (Result Lexed Stray)) → own ≡ text → told r ≡ next own at → r ≡ s → Known text at (told s)
step text own at r s whole is e = known_by text at (told s) (ap told (sym e) ∙ is ∙ ap (λ l. next l at) whole)

pub returns-in_err-lexed : goal.returns-in_err-lexed
returns-in_err-lexed c =
    let p = err_from_is_err_and c.from_residual.result c.from_residual.ensures.1 in
    let on = step c.args.text.now _ _ _ _ c.loop-lexed.invariant.whole c.next.ensures.steps.1 (c.in-Some.is ∙ ap Some c.in_err-lexed.was) in
    record { first_stray_byte = ap refused p.1 ∙ ap (λ x. Some x.0) p.2 ∙ sym on.onward ∙ c.loop-lexed.invariant.same; tokens_and_blanks_are_the_text = law }

pub loop-lexed-preserved : goal.loop-lexed-preserved
loop-lexed-preserved c =
    let is = c.in-Some.is ∙ ap Some c.in_ok-lexed.was in
    let on = step c.args.text.now _ _ _ _ c.loop-lexed.invariant.whole c.next.ensures.steps.1 is in
    let to = c.next.ensures.steps.2 ∙ ap (λ r. behind (length c.loop-lexed.lexed-iterator.text.now) (told r)) is in
    record {
      can = tt;
      ends = tt;
      whole = c.next.ensures.steps.0 ∙ c.loop-lexed.invariant.whole;
      within = rw to on.inside.2;
      same = rw to (sym on.onward ∙ c.loop-lexed.invariant.same);
    }

pub returns : goal.returns
returns c =
    let on = step c.args.text.now _ _ _ _ c.loop-lexed.invariant.whole c.next.ensures.steps.1 c.in-None.is in
    record { first_stray_byte = sym on.onward ∙ c.loop-lexed.invariant.same; tokens_and_blanks_are_the_text = law }
