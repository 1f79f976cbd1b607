use Rattle.std.proofs.Common.{arith}
use Rattle.vm.proofs.Memory.{memory-itself, memory-same, roomy-same}
use Rattle.vm.proofs.Runs.{one_more, last_step, none_made, all_made}
use Rattle.vm.proofs.run.Run.advance_by.Goals as goal

pub loop-i-init : goal.loop-i-init
loop-i-init g c = record { roomy = c.requires; memory = memory-itself c.args.self.now; left = λ P L m s. none_made P L c.args.n m _ s }

pub advance-requires : goal.advance-requires
advance-requires g c = c.loop-i.invariant.roomy

pub loop-i-preserved : goal.loop-i-preserved
loop-i-preserved g c =
    let e = c.in_default.ensures in
    record {
      roomy = roomy-same _ _ c.loop-i.invariant.roomy e.lent;
      memory = memory-same _ _ _ c.loop-i.invariant.memory e.lent;
      left = λ P L m s.
          let h = c.loop-i.invariant.left P L m s in
          one_more P L c.args.n c.loop-i.i m c.loop-i-test.true _ _ h (e.stepped P L h.0 h.3);
    }

pub returns-in-Err : goal.returns-in-Err
returns-in-Err g c =
    let e = c.in-Err.ensures in
    record {
      ran = λ P L m s.
          let h = c.loop-i.invariant.left P L m s in
          last_step P L c.args.n c.loop-i.i m c.loop-i-test.true _ _ h _ (e.stepped P L h.0 h.3);
      lent = memory-same _ _ _ c.loop-i.invariant.memory e.lent;
    }

pub returns : goal.returns
returns g c =
    record {
      ran = λ P L m s. all_made P L c.args.n c.loop-i.i m _ (omega arith) (c.loop-i.invariant.left P L m s);
      lent = c.loop-i.invariant.memory;
    }
