use Rattle.std.proofs.Common.{pos, inl, inr, ap, ◌∙◌, arith}
use Rattle.std.proofs.lemmas.Result.{err_from_is_err_and}
use Rattle.std.proofs.lemmas.Bool.{cases_eq}
use Rattle.std.proofs.lemmas.List.{take_more, take_all, map_push, append_assoc, get_or-set_same}
use Rattle.store.specs.declared.value.Value.{Value}
use Rattle.machine.specs.declared.instruction.Instruction.{Instruction}
use Rattle.machine.specs.Instr.{instr}
use Rattle.code.specs.declared.table.Record.{Record}
use Rattle.code.specs.Laying.{end_of}
use Rattle.code.proofs.table.Open.lay_all.Goals as goal

pub returns-in_err-lay-clause-laid : goal.returns-in_err-lay-clause-laid
returns-in_err-lay-clause-laid c =
    let p = err_from_is_err_and c.from_residual.result c.from_residual.ensures.1 in
    λ m P d l. rw p.1 (c.loop-instruction.instruction-index, omega arith, c.in_err-lay.ensures.laid m P _ (c.loop-instruction.invariant.laid m P d l))

pub loop-instruction-preserved : goal.loop-instruction-preserved
loop-instruction-preserved c =
    let n = c.loop-instruction.instruction-index in
    let v = c.loop-instruction.invariant in
    let e = c.in_ok-lay.ensures in
    let w = e.written in
    let first : Instruction = Instruction.Const (record { 0 = 0 }) (Value.Int (pos 0)) in
    record {
      laid = λ m P d l.
          rw (take_more c.args.code.now n first c.loop-instruction-test.true, map_push (instr m), ← append_assoc)
          (e.laid m P _ (v.laid m P d l));
      here = omega (arith, w.2, v.here);
      origins = λ i d a b.
          elim (cases_eq i (end_of c.loop-instruction.self.current)) [
            | inl q ↦ rw (q, w.1) (ap (λ (x : Record). x.origin) (get_or-set_same c.loop-instruction.records (end_of c.loop-instruction.self.current) _ d w.0))
            | inr q ↦ ap (λ (x : Record). x.origin) (e.elsewhere i d q) ∙ v.origins i d a (omega (arith, q, w.2))
          ];
      elsewhere = λ i d a.
          elim a [
            | inl h ↦ e.elsewhere i d (λ q. omega (arith, h, q, v.here)) ∙ v.elsewhere i d (inl h)
            | inr h ↦ e.elsewhere i d (λ q. omega (arith, h, q, w.2)) ∙ v.elsewhere i d (inr (omega (arith, h, w.2)))
          ];
    }

pub returns-clause-laid : goal.returns-clause-laid
returns-clause-laid c =
    λ m P d l.
    rw (take_all c.loop-instruction.instruction-index c.args.code.now (omega arith)) at c.loop-instruction.invariant.laid m P d l
