use Rattle.std.proofs.Common.{◌≡◌, ◌++◌, take}
use Rattle.display.proofs.forms.listed.Given as goal

abbrev pub invariant-loop-root : goal.invariant-loop-root
invariant-loop-root l = l.all.items ≡ take l.root-index l.first

abbrev pub invariant-loop-root-2 : goal.invariant-loop-root-2
invariant-loop-root-2 l = l.all.items ≡ l.first ++ take l.root-index l.others
