use Rattle.std.proofs.Common.{◌≡◌, ℕ, List, Option, Some, sym, ap, ◌∙◌, arith}
use Rattle.lexer.specs.declared.token.Keyword.{Keyword}
use Rattle.lexer.specs.Keyword.{word, keyword_of}
use Rattle.lexer.proofs.Keywords.{keyword-spells, keywords-are-13, all_left, one-hits, one-misses, none_left}
use Rattle.lexer.proofs.Complete.{keyword-found}
use Rattle.lexer.proofs.keyword_of.Goals as goal

-- what the search answers is found by its letters, and by no others
lettered : (w : List ℕ) (r : Option Keyword) → r ≡ keyword_of w → (k : Keyword) → (r ≡ Some k → w ≡ word k) × (w ≡ word k → r ≡ Some k)
lettered w r is k = (λ e. keyword-spells w k (sym is ∙ e), λ e. is ∙ ap keyword_of e ∙ keyword-found k)

pub loop-keyword-init : goal.loop-keyword-init
loop-keyword-init c = all_left c.args.bytes.now

pub returns-then-eq : goal.returns-then-eq
returns-then-eq c =
    let few = keywords-are-13 in
    let is = sym (one-hits _ _ c.loop-keyword.keyword-index (omega arith) c.word.ensures.its_letters c.if-eq.ensures) ∙ c.loop-keyword.invariant in
    record { whose_word_it_is = is; by_its_letters = lettered _ _ is }

pub loop-keyword-preserved : goal.loop-keyword-preserved
loop-keyword-preserved c =
    let few = keywords-are-13 in
    sym (one-misses _ _ c.loop-keyword.keyword-index (omega arith) c.word.ensures.its_letters c.if-eq.ensures) ∙ c.loop-keyword.invariant

pub returns : goal.returns
returns c =
    let few = keywords-are-13 in
    let is = sym (none_left c.args.bytes.now c.loop-keyword.keyword-index (omega arith)) ∙ c.loop-keyword.invariant in
    record { whose_word_it_is = is; by_its_letters = lettered _ _ is }
