use Rattle.std.proofs.Common.{sym, ap, ◌∙◌}
use Rattle.lexer.specs.Token.{terminal}
use Rattle.lexer.specs.Lexing.{found}
use Rattle.syntax.specs.Sight.{shown}
use Rattle.syntax.proofs.Tokens.{left-shown, left_end, left-stray, quoted-bytes}
use Rattle.syntax.proofs.source.Text.look.Goals as goal

pub returns-in-Ok-Some-clause-shows : goal.returns-in-Ok-Some-clause-shows
returns-in-Ok-Some-clause-shows c =
    let l = c.in-Ok-Some.lexed in
    left-shown c.args.self.bytes.now c.args.at (terminal l.token) l.from l.to (ap found (sym c.in-Ok-Some.field-0-is) ∙ c.in-Ok-Some.ensures.the_next)
    ∙ ap (λ s. shown c.args.self.bytes.now s l.from l.to) (sym c.from.ensures)

pub invariant_of-result-clause-quoted : goal.invariant_of-result-clause-quoted
invariant_of-result-clause-quoted c =
    let l = c.in-Ok-Some.lexed in
    λ e. quoted-bytes c.args.self.bytes.now c.args.at (terminal l.token) l.from l.to (ap found (sym c.in-Ok-Some.field-0-is) ∙ c.in-Ok-Some.ensures.the_next) (sym c.from.ensures ∙ e)

pub returns-in-Ok-None-clause-shows : goal.returns-in-Ok-None-clause-shows
returns-in-Ok-None-clause-shows c = left_end c.args.self.bytes.now c.args.at (ap found (sym c.in-Ok-None.field-0-is) ∙ c.in-Ok-None.ensures.the_next)

pub returns-in-Err-clause-shows : goal.returns-in-Err-clause-shows
returns-in-Err-clause-shows c = left-stray c.args.self.bytes.now c.args.at _ c.in-Err.ensures.the_next
