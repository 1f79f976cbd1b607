use Rattle.std.proofs.Common.{ℕ, List, length, Option, sym, ap, ◌∙◌, subst}
use Rattle.store.specs.declared.value.Value.{Value}
use Rattle.operands.specs.Globals.{globals_of, GlobalsWithin}
use Rattle.calls.specs.Frames.{waiting, state_at, LiveIn}
use Rattle.vm.specs.Standing.{lent, memory_at}
use Rattle.vm.proofs.Beginning.{stands-initially}
use Rattle.vm.proofs.run.Run.begin.Goals as goal

pub returns-clause-begun : goal.returns-clause-begun
returns-clause-begun g c =
    let f = c.begin.ensures in
    let xs = c.begin.new.self.registers.now in
    let n = c.new-self.ensures in
    let s = c.clear-3.ensures in
    λ code r a w.
    let l = lent code r in
    let m = memory_at l in
    let e = sym (a.callers ∙ sym f.none) in
    stands-initially g.S.Store c.clear-3.new.self l _
    (λ W. f.begun m W ∙ (λ i. state_at m (sym a.registers i) (e i) (length (e i)) (sym a.running i) W))
    (subst (λ (z : List (Option Value)). LiveIn r.spent.strings.used z (waiting r.frames)) (sym a.registers) (subst (λ (k : ℕ). LiveIn r.spent.strings.used xs k) (ap length e) (f.within _)))
    (ap (globals_of m) a.globals ∙ n.empty m) (subst (GlobalsWithin 0) (sym a.globals) n.within) a.count a.used a.printed (s.holds m) (s.within _) w (λ i. record { tables = s.tables i; pairs = s.room i })
