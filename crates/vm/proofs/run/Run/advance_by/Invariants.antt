use Rattle.machine.specs.Limits.{Limits}
use Rattle.machine.specs.Instr.{Program}
use Rattle.machine.specs.State.{State}
use Rattle.vm.specs.Standing.{lent, Roomy, SameMemory, Stands}
use Rattle.vm.proofs.Runs.{Left}
use Rattle.vm.proofs.run.Run.advance_by.Given as goal

-- what is left of the run gives its end
abbrev pub invariant-loop-i : goal.invariant-loop-i
invariant-loop-i g l =
    record {
      roomy : Roomy l.self;
      memory : SameMemory l.initial.self l.self;
      left : (P : Program) (L : Limits) (m : State) → Stands g.S.Store l.initial.store (lent l.code l.initial.self) P L m → Left P L l.n l.i m (Stands g.S.Store l.store (lent l.code l.self) P L);
    }
