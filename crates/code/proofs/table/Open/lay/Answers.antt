use Rattle.std.proofs.Common.{refl, arith}
use Rattle.code.proofs.Laying.{laid}
use Rattle.code.proofs.table.Open.lay.Goals as goal

pub returns-clause-laid : goal.returns-clause-laid
returns-clause-laid c = λ m P d l. rw c.end-end.ensures.behind (laid l _ _ refl refl (omega arith))
