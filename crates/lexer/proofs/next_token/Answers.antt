use Rattle.std.proofs.Common.{◌≡◌, ℕ, ◌+◌, ◌-◌, List, length, take, drop, sym, ap, ◌∙◌, arith}
use Rattle.std.specs.List.{take_while}
use Rattle.std.proofs.lemmas.List.{take_all, length-drop}
use Rattle.lexer.specs.declared.byte.Run.TheVariants.{Blanks}
use Rattle.lexer.specs.Byte.{goes_on}
use Rattle.std.proofs.lemmas.Result.{err_from_is_err_and}
use Rattle.lexer.specs.Lexing.{answer, next, end, stray, lexed}
use Rattle.lexer.proofs.Placing.{next_past, next-end, next-placed}
use Rattle.lexer.proofs.Onward.{known_by}
use Rattle.lexer.proofs.next_token.Goals as goal

-- the run of the rest is that of the text from `at` on
long-blanks : (text : List ℕ) (at n : ℕ) → n ≡ length (take_while (goes_on Blanks) (take (length text - at) (drop at text))) → at + n ≡ at + length (take_while (goes_on Blanks) (drop at text))
long-blanks text at n e = ap (λ k. at + k) (e ∙ ap (λ l. length (take_while (goes_on Blanks) l)) (take_all (length text - at) (drop at text) (simp length-drop (omega arith))))

pub returns-then-at-text : goal.returns-then-at-text
returns-then-at-text c =
    let is : end ≡ next c.args.text.now c.args.at = sym (next_past c.args.text.now c.args.at (omega arith)) in
    let k = known_by c.args.text.now c.args.at _ is in
    record { the_next = is; stands_behind_blanks = k.stands; inside_the_text = k.inside }

pub returns-then-from-text : goal.returns-then-from-text
returns-then-from-text c =
    let is : end ≡ next c.args.text.now c.args.at =
    sym (next-end c.args.text.now c.args.at (c.args.at + c.run_len.result) (long-blanks c.args.text.now c.args.at c.run_len.result c.run_len.ensures.longest) (omega arith)) in
    let k = known_by c.args.text.now c.args.at _ is in
    record { the_next = is; stands_behind_blanks = k.stands; inside_the_text = k.inside }

pub returns-in_err-token : goal.returns-in_err-token
returns-in_err-token c =
    let p = err_from_is_err_and c.from_residual.result c.from_residual.ensures.1 in
    let here = next-placed c.args.text.now c.args.at (c.args.at + c.run_len.result) (long-blanks c.args.text.now c.args.at c.run_len.result c.run_len.ensures.longest) (omega arith) in
    let is : answer c.from_residual.result ≡ next c.args.text.now c.args.at =
    ap answer p.1 ∙ ap (λ s. stray s.0) p.2 ∙ c.in_err-token.ensures.by_the_first_byte ∙ sym here in
    let k = known_by c.args.text.now c.args.at _ is in
    record { the_next = is; stands_behind_blanks = k.stands; inside_the_text = k.inside }

pub returns : goal.returns
returns c =
    let here = next-placed c.args.text.now c.args.at (c.args.at + c.run_len.result) (long-blanks c.args.text.now c.args.at c.run_len.result c.run_len.ensures.longest) (omega arith) in
    let is : lexed c.in_ok-token.field-0 ≡ next c.args.text.now c.args.at =
    c.in_ok-token.ensures.by_the_first_byte ∙ sym here in
    let k = known_by c.args.text.now c.args.at _ is in
    record { the_next = is; stands_behind_blanks = k.stands; inside_the_text = k.inside }
