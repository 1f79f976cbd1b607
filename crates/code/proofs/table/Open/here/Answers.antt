use Rattle.code.proofs.Laying.{length-laid}
use Rattle.code.proofs.table.Open.here.Goals as goal

pub returns : goal.returns
returns c = record { length = λ m xs P d l. length-laid l }
