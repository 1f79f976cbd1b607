use Rattle.std.proofs.Common.{[], ◌∷◌, ◌++◌, refl, subst}
use Rattle.code.specs.Laying.{Lays}
use Rattle.code.proofs.table.Open.lay_jump.Goals as goal

pub returns-clause-laid : goal.returns-clause-laid
returns-clause-laid c = λ m P d l.
    (c.here-at.ensures.length m _ P d l, refl, subst (λ i. Lays m c.lay.new.records c.lay.new.self P (d ++ i ∷ [])) (c.jump_of.ensures.as_asked m) (c.in_ok-lay.ensures.laid m P d l))
