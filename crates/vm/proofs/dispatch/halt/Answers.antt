use Rattle.std.proofs.Common.{Err, sym, ap, ◌∙◌}
use Rattle.vm.proofs.Frames.{halt-with, halt-without}
use Rattle.vm.proofs.dispatch.halt.Goals as goal

pub returns-in-Ok : goal.returns-in-Ok
returns-in-Ok c = λ m W. halt-with m c.args.frames.now W c.args.a.0 _ c.current.ensures.window _ (c.in-Ok.ensures.held m) ∙ ap Err (sym (c.halted.ensures m))

pub returns-in-Err : goal.returns-in-Err
returns-in-Err c = λ m W. halt-without m c.args.frames.now W c.args.a.0 _ c.current.ensures.window _ (c.in-Err.ensures.held m)
