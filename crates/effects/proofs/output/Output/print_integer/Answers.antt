use Rattle.std.proofs.Common.{ℕ, ◌+◌, List, length, refl, ap, ◌∙◌, w32}
use Rattle.std.proofs.lemmas.Int.{to_z-of_z}
use Rattle.std.proofs.lemmas.Result.{err_from_is_err_and}
use Rattle.std.specs.Fmt.{signed_decimal}
use Rattle.effects.proofs.Spends.{print-fits, print-full}
use Rattle.effects.proofs.output.Output.print_integer.Goals as goal

pub returns-in_err-end-clause-printed : goal.returns-in_err-end-clause-printed
returns-in_err-end-clause-printed c =
    let p = err_from_is_err_and c.from_residual.result c.from_residual.ensures.1 in
    let text = c.as_bytes-digits.ensures.value ∙ c.format.ensures.text ∙ ap signed_decimal (to_z-of_z w32 c.args.n c.ranges.n) in
    rw (p.1, p.2) (print-full _ c.args.self.now _ _ (ap length text) c.in_err-end.ensures.room.0 c.in_err-end.ensures.room.1)

pub returns-clause-printed : goal.returns-clause-printed
returns-clause-printed c =
    let text = c.as_bytes-digits.ensures.value ∙ c.format.ensures.text ∙ ap signed_decimal (to_z-of_z w32 c.args.n c.ranges.n) in
    let e = c.in_ok-end.ensures.room in
    print-fits _ c.args.self.now _ _ c.in_ok-end.end (c.copy_from_slice.ensures.after ∙ text) (e.0 ∙ ap (λ (z : List ℕ). c.args.self.now.printed + length z) text) e.1 refl
