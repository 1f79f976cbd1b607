use Rattle.std.proofs.Common.{◌≡◌, ◌+◌, ◌-◌, ◌*◌, ◌≤◌, length, refl, ap, sym, ◌∙◌, subst, arith}
use borrow.Rule.Slice.PartMut.{put_mid, put_same}
use Rattle.std.proofs.lemmas.Result.{err_from_is_err_and}
use Rattle.text.specs.Memory.{memory_of}
use Rattle.machine.specs.Limits.{registers_per_frame}
use Rattle.machine.specs.Instr.{instr}
use Rattle.operands.specs.Globals.{globals_of}
use Rattle.operands.specs.Slots.{Within}
use Rattle.calls.specs.Frames.{waiting}
use Rattle.calls.proofs.Windows.{length-window}
use Rattle.vm.specs.Standing.{limits_of}
use Rattle.vm.proofs.Frames.{lent-window, stay-ends, stay-goes, lent-within, lent-long}
use Rattle.vm.proofs.dispatch.stay.Goals as goal

pub returns-in_err-pc : goal.returns-in_err-pc
returns-in_err-pc g c =
    let p = err_from_is_err_and c.from_residual.result c.from_residual.ensures.1 in
    let a = c.args in
    let f = a.frames.now in
    let m = memory_of a.bytes in
    let xs = f.registers.now in
    let w = waiting f in
    let few = f.few in
    let all = c.requires.sized.registers in
    let sized : registers_per_frame * w + registers_per_frame ≤ length xs = omega arith in
    let base = c.base-base.ensures.place in
    let here = lent-window xs c.base-base.result w base in
    let whole = ap length here ∙ length-window xs w sized in
    let zs = c.execute.new.registers in
    let len : length zs ≡ registers_per_frame = omega (arith, c.execute.auto.registers) in
    let e = c.in_err-pc.ensures in
    rw (p.1, p.2)
    (record {
      stayed = λ P o T s h.
          let x = e.executed T h whole in (
            stay-ends P (limits_of g.S.Store a.store.now) (instr m a.i) s m f T (globals_of m a.globals.now) o _ here _ x.0,
            (record { running = refl; callers = refl; registers = ap (put_mid c.base-base.result (c.base-base.result + registers_per_frame - c.base-base.result) xs) x.1 ∙ put_same c.base-base.result (c.base-base.result + registers_per_frame - c.base-base.result) xs }, x.2),
            x.3,
          );
      within = λ u hr hg hs hc.
          let x = e.within u (subst (Within u) (sym here) (hr w (omega arith))) hg hs hc in
          (lent-within xs zs c.base-base.result w base sized len u hr x.0, x.1, x.2);
      space = λ i. record { tables = e.limits.0 i; pairs = e.limits.1 i };
      lent = record { callers = record { lender = refl; long = refl }; registers = record { lender = refl; long = lent-long xs zs c.base-base.result w base sized len } };
    })

pub returns : goal.returns
returns g c =
    let a = c.args in
    let f = a.frames.now in
    let m = memory_of a.bytes in
    let xs = f.registers.now in
    let w = waiting f in
    let few = f.few in
    let all = c.requires.sized.registers in
    let sized : registers_per_frame * w + registers_per_frame ≤ length xs = omega arith in
    let base = c.base-base.ensures.place in
    let here = lent-window xs c.base-base.result w base in
    let whole = ap length here ∙ length-window xs w sized in
    let zs = c.execute.new.registers in
    let len : length zs ≡ registers_per_frame = omega (arith, c.execute.auto.registers) in
    let e = c.in_ok-pc.ensures in
    record {
      stayed = λ P o T s h.
          let x = e.executed T h whole in
          (x.0, stay-goes P (limits_of g.S.Store a.store.now) (instr m a.i) s m f T (globals_of m a.globals.now) o _ here zs c.base-base.result _ x.0 _ _ base sized len x.1 refl refl, x.2);
      within = λ u hr hg hs hc.
          let x = e.within u (subst (Within u) (sym here) (hr w (omega arith))) hg hs hc in
          (lent-within xs zs c.base-base.result w base sized len u hr x.0, x.1, x.2);
      space = λ i. record { tables = e.limits.0 i; pairs = e.limits.1 i };
      lent = record { callers = record { lender = refl; long = refl }; registers = record { lender = refl; long = lent-long xs zs c.base-base.result w base sized len } };
    }
