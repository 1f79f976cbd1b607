use Rattle.std.proofs.Common.{◌≡◌, arith}
use Rattle.std.proofs.Math.Seq.{set-append_seam}
use Rattle.std.proofs.lemmas.Grind.{common_steps}
use Rattle.code.specs.Laying.{end_of}
use Rattle.code.proofs.Laying.{begun}
use Rattle.code.proofs.table.Open.next_function.Goals as goal

pub returns-clause-begun : goal.returns-clause-begun
returns-clause-begun c = λ m xs P d l.
    let e : c.in-Ok.start ≡ end_of c.args.self.now.current = grind arith in
    begun l _ (grind (arith, common_steps, set-append_seam, c.push.ensures.items)) (λ i. record { start = e i; len = 0 })
