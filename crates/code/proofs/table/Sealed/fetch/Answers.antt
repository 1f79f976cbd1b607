use Rattle.std.proofs.Common.{refl, ◌≡◌, ◌+◌, get_or, Some, sym, ap, ◌∙◌, arith}
use Rattle.code.specs.Programs.{meant}
use Rattle.code.proofs.Fetching.{no-function, looked-up, past-code, past-table, in_code}
use Rattle.code.proofs.table.Sealed.fetch.Goals as goal

pub returns-in_err-extent-clause-of_the_program : goal.returns-in_err-extent-clause-of_the_program
returns-in_err-extent-clause-of_the_program c =
    λ m. rw c.from_residual.ensures (sym (no-function m _ _ _ _ (omega (arith, c.in_err-extent.ensures.lookup.3, c.from.ensures))))

pub returns-in_err-index-clause-of_the_program : goal.returns-in_err-index-clause-of_the_program
returns-in_err-index-clause-of_the_program c =
    let k = c.in_ok-extent.ensures.lookup in
    λ m. rw c.from_residual-in_err-index.ensures
    (sym (looked-up m _ _ _ _ _ _ c.in_ok-extent.extent.now refl c.from.ensures k.3.0 k.1 ∙ past-code m _ _ _ (omega (arith, c.in_err-index.ensures.within))))

pub returns-in_err-record-clause-of_the_program : goal.returns-in_err-record-clause-of_the_program
returns-in_err-record-clause-of_the_program c =
    let k = c.in_ok-extent.ensures.lookup in
    let i = c.in_ok-index.ensures.within in
    λ m. rw c.from_residual-in_err-record.ensures
    (sym (looked-up m _ _ _ _ _ _ c.in_ok-extent.extent.now refl c.from.ensures k.3.0 k.1 ∙ past-table m _ _ _ (omega (arith, c.in_err-record.ensures.lookup.3, i.1))))

pub returns-clause-of_the_program : goal.returns-clause-of_the_program
returns-clause-of_the_program c =
    let k = c.in_ok-extent.ensures.lookup in
    let i = c.in_ok-index.ensures.within in
    let r = c.in_ok-record.ensures.lookup in
    let e : get_or c.args.records.now (c.in_ok-extent.extent.now.start + c.args.pc.0) c.in_ok-record.record.now ≡ c.in_ok-record.record.now = rw (← i.1) (sym r.1) in
    λ m. sym (
    looked-up m _ _ _ _ _ _ c.in_ok-extent.extent.now refl c.from.ensures k.3.0 k.1
    ∙ in_code m _ _ _ c.in_ok-record.record.now (omega arith) (omega (arith, r.3.0, i.1))
    ∙ ap (λ x. Some (meant m x)) e
    )
