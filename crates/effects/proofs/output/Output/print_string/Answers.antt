use Rattle.std.proofs.Common.{◌+◌, sym, ap, ◌∙◌, arith}
use Rattle.std.proofs.lemmas.Result.{err_from_is_err_and}
use Rattle.std.proofs.lemmas.Grind.{common_steps}
use Rattle.text.specs.Memory.{memory_of}
use Rattle.text.specs.Meanings.{length-bytes_of}
use Rattle.effects.proofs.Spends.{print-fits, print-full}
use Rattle.effects.proofs.output.Output.print_string.Goals as goal

pub returns-in_err-end-clause-printed : goal.returns-in_err-end-clause-printed
returns-in_err-end-clause-printed c =
    let p = err_from_is_err_and c.from_residual.result c.from_residual.ensures.1 in
    let n = c.from.ensures ∙ sym (length-bytes_of (memory_of c.args.bytes) c.args.string) in
    rw (p.1, p.2) (print-full _ c.args.self.now _ _ n c.in_err-end.ensures.room.0 c.in_err-end.ensures.room.1)

pub returns-clause-printed : goal.returns-clause-printed
returns-clause-printed c =
    let n = c.from.ensures ∙ sym (length-bytes_of (memory_of c.args.bytes) c.args.string) in
    let e = c.in_ok-end.ensures.room in
    print-fits _ c.args.self.now _ _ c.in_ok-end.end c.copy_string.ensures.copied (e.0 ∙ ap (λ k. c.args.self.now.printed + k) n) e.1 (grind (arith, common_steps))
