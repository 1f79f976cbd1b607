use Rattle.std.proofs.Common.{refl, arith}
use Rattle.std.proofs.lemmas.Grind.{common_steps}
use Rattle.operands.specs.Globals.{globals_of}
use Rattle.operands.proofs.Naming.{held_found, held_none, put-found, put-fresh, has-place, has_room, no_room, entry-set}
use Rattle.operands.proofs.globals.Globals.write.Goals as goal

pub returns-in-None-clause-written : goal.returns-in-None-clause-written
unfolding globals_of
returns-in-None-clause-written c =
    λ m. (no_room m c.args.name.0 _ (held_none m c.args.name.0 _ c.in-None.ensures.first) (omega arith), refl)

pub returns-in-Some-clause-written : goal.returns-in-Some-clause-written
unfolding globals_of
returns-in-Some-clause-written c =
    let es = c.args.self.now.entries in
    let h = c.in-Some.ensures.first in
    λ m. (
      has-place m c.args.name.0 _ _ (held_found m c.args.name.0 es.items c.in-Some.i (record { name = c.args.name; value = c.args.value }) h),
      put-found m c.args.name.0 es.items _ c.in-Some.i c.args.value h (entry-set es _ c.in-Some.i _ c.deref_mut.ensures.value),
    )

pub returns-in-Some-clause-within : goal.returns-in-Some-clause-within
returns-in-Some-clause-within c =
    λ u g e. rw (entry-set c.args.self.now.entries _ c.in-Some.i (record { name = c.args.name; value = c.args.value }) c.deref_mut.ensures.value) (grind (arith, common_steps))

pub returns-in-None-2-clause-written : goal.returns-in-None-2-clause-written
unfolding globals_of
returns-in-None-2-clause-written c =
    λ m. (
      has_room m c.args.name.0 _ (omega arith),
      put-fresh m c.args.name.0 _ _ c.args.value c.in-None.ensures.first c.push.ensures.items,
    )
