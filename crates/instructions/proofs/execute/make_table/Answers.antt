use Rattle.std.proofs.Common.{◌≡◌, ◌<◌, length, Some, ap, ◌∙◌, arith}
use Rattle.store.specs.declared.value.Value.TheVariants.{Loc}
use Rattle.store.specs.Val.{Val}
use Rattle.machine.specs.State.{write}
use Rattle.operands.specs.Slots.{registers_of}
use Rattle.operands.proofs.Slots.{slot-set}
use Rattle.instructions.proofs.Acting.{table-made}
use Rattle.instructions.proofs.execute.make_table.Goals as goal

pub returns-clause-made : goal.returns-clause-made
returns-clause-made g c =
    let xs = c.args.registers.now in
    let a = c.args.a.0 in
    let i = c.in_ok-i.ensures in
    let low : a < length xs = omega (arith, i) in
    let e : c.make.result ≡ Some c.in_ok-l.l = grind arith in
    λ m T h n.
    let t = rw e at (c.make.ensures.holds m T h) in (
      table-made (g.S.Store.tables c.args.store.now) a T (omega arith) t.0,
      rw i.0 (slot-set m xs a (Loc c.in_ok-l.l) low ∙ ap (λ k. write (registers_of m xs) a (Val.location k)) t.1),
      t.2,
    )
