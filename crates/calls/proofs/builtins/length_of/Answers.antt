use Rattle.std.proofs.Common.{◌≡◌, ℕ, ℤ, pos, Ok, sym, ap, ◌∙◌, arith, w32, to_z}
use Rattle.std.proofs.lemmas.Int.{ints}
use Rattle.std.proofs.lemmas.Result.{err_from_is_err_and}
use Rattle.text.specs.Meanings.{length-bytes_of}
use Rattle.store.specs.Val.{Val}
use Rattle.operands.specs.Slots.{registers_of}
use Rattle.calls.proofs.Applied.{length_without, length-other, length-of}
use Rattle.calls.proofs.builtins.length_of.Goals as goal

pub returns-in_err-v : goal.returns-in_err-v
returns-in_err-v c =
    let p = err_from_is_err_and c.from_residual.result c.from_residual.ensures.1 in
    let a = c.args in
    rw (p.1, p.2)
    (record {
      answered = λ m o. sym (length_without (registers_of m a.registers.now) a.passed.first.0 a.passed.last.0 o _ (c.in_err-v.ensures.held m));
      within = tt;
      there = tt;
    })

pub returns-in_err-s : goal.returns-in_err-s
returns-in_err-s c =
    let p = err_from_is_err_and c.from_residual-in_err-s.result c.from_residual-in_err-s.ensures.1 in
    let a = c.args in
    rw (p.1, p.2)
    (record {
      answered = λ m o. sym (length-other (registers_of m a.registers.now) a.passed.first.0 a.passed.last.0 o _ (c.in_ok-v.ensures.held m) _ (c.in_err-s.ensures.meant m));
      within = tt;
      there = tt;
    })

pub returns : goal.returns
returns c =
    let a = c.args in
    let v = c.in_ok-v.ensures in
    let s = c.in_ok-s.s in
    let n : to_z w32 s.len ≡ pos s.len = omega (arith, ints) in
    record {
      answered = λ m o.
          sym (length-of (registers_of m a.registers.now) a.passed.first.0 a.passed.last.0 o _ (v.held m) _ (c.in_ok-s.ensures.meant m)
          ∙ ap (λ (k : ℕ). Ok (Val.int (pos k), o)) (length-bytes_of m s)
          ∙ ap (λ (k : ℤ). Ok (Val.int k, o)) (sym n));
      within = omega arith;
      there = v.there;
    }
