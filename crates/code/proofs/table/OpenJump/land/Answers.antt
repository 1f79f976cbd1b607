use Rattle.std.proofs.Common.{refl, ap, ◌∙◌, arith}
use Rattle.code.specs.Laying.{jump_of}
use Rattle.code.proofs.Laying.{origins-kept, distance, length-laid, landed, landed-nowhere}
use Rattle.code.proofs.table.OpenJump.land.Goals as goal

pub returns-then-i-records-clause-landed : goal.returns-then-i-records-clause-landed
returns-then-i-records-clause-landed c = λ m P d l.
    rw (c.in-Some.ensures.within.1, c.from.ensures)
    (landed l c.args.self.at _ _ (c.jump_of.ensures.as_asked m ∙ ap (jump_of c.args.self.test) (distance _ _ _ (omega (arith, c.args.code.now.short)) (omega (arith, c.in-Some.ensures.within.0, c.from.ensures)) (length-laid l))))

pub returns-then-i-records-clause-origins_kept : goal.returns-then-i-records-clause-origins_kept
returns-then-i-records-clause-origins_kept c = origins-kept c.args.records.now _ _ _ refl

pub returns-in_default-clause-landed : goal.returns-in_default-clause-landed
returns-in_default-clause-landed c = λ m P d l. landed-nowhere l c.args.self.at _ (omega (arith, c.in_default.ensures.within, c.from.ensures))
