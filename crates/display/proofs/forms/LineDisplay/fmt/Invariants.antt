use Rattle.std.proofs.Common.{flat_map, take}
use Rattle.std.specs.Fmt.{HasWritten, IsPlainFormatter}
use Rattle.display.specs.Lines.{part_written}
use Rattle.display.proofs.forms.LineDisplay.fmt.Given as goal

-- the parts so far are written
abbrev pub invariant-loop-root : goal.invariant-loop-root
invariant-loop-root g l = IsPlainFormatter l.initial.f → HasWritten g.W.Write.write_str_gives l.initial.f (flat_map (part_written l.between) (take l.root-index l.root-items)) l.f
