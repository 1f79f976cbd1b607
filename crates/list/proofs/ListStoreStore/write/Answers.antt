use Rattle.std.proofs.Common.{◌≡◌, ◌≤◌, is_some, ap, subst, ◌∙◌, arith}
use Rattle.std.proofs.Math.Bridge.{le_prop}
use Rattle.std.proofs.lemmas.Bool.{lt-ltb, le-ltb}
use Rattle.std.proofs.lemmas.Result.{err_from_is_err_and}
use Rattle.text.specs.Memory.{memory_of}
use Rattle.stack.specs.declared.Stack.{Stack}
use Rattle.stack.specs.Held.{held, room}
use Rattle.store.specs.Limits.{most_pairs}
use Rattle.store.specs.declared.count.TableCount.{TableCount}
use Rattle.list.specs.declared.Pair.{Pair}
use Rattle.list.specs.declared.ListStore.{ListStore}
use Rattle.store.proofs.Tables.{takes-present, takes-new}
use Rattle.list.proofs.Listing.{holds-pairs, holds-made, holds-unmade, holds-found, holds-none, holds-set, holds-push}
use Rattle.list.proofs.ListStoreStore.write.Goals as goal

-- stores of the same pairs and tables are the same
same_store : (P Q : Stack Pair) (t : TableCount) (l : room P ≤ most_pairs) (q : room Q ≤ most_pairs) → P ≡ Q → ◌≡◌ {A = ListStore} (record { pairs = P; tables = t; limit = l }) (record { pairs = Q; tables = t; limit = q })
same_store P Q t l q e =
    subst (λ (X : Stack Pair). (x : room X ≤ most_pairs) → ◌≡◌ {A = ListStore} (record { pairs = P; tables = t; limit = l }) (record { pairs = X; tables = t; limit = x })) e
    (λ x. ap (λ (y : room P ≤ most_pairs). record { pairs = P; tables = t; limit = y }) (le_prop l x)) q

pub returns-in_err-check-clause-holds : goal.returns-in_err-check-clause-holds
returns-in_err-check-clause-holds c =
    let s = c.args.self.now in
    let p = err_from_is_err_and c.from_residual.result c.from_residual.ensures.1 in
    rw (p.1, p.2) (λ T h. (holds-unmade (held s.pairs) s.tables.made (memory_of c.args.bytes) T h c.args.key.location.0 c.in_err-check.ensures.made, h))

pub returns-in-Some-clause-holds : goal.returns-in-Some-clause-holds
returns-in-Some-clause-holds c = λ T h.
    let s = c.args.self.now in
    let m = memory_of c.args.bytes in
    let at = c.in-Some.ensures in
    let there = holds-made (held s.pairs) s.tables.made m T h c.args.key.location.0 c.in_ok-check.ensures.made in
    let found = holds-found (held s.pairs) s.tables.made m T h c.args.key c.in-Some.i (record { key = c.args.key; value = c.args.value }) at.first at.within in
    rw (c.set.ensures.held, c.items.ensures)
    (there, takes-present (room s.pairs) T _ _ there (ap is_some found), holds-set (held s.pairs) s.tables.made m T h c.args.key c.in-Some.i _ c.args.value at.first at.within c.in_ok-check.ensures.made)

pub returns-in-Ok-clause-holds : goal.returns-in-Ok-clause-holds
returns-in-Ok-clause-holds c = λ T h.
    let s = c.args.self.now in
    let m = memory_of c.args.bytes in
    let first = c.in-None.ensures.first in
    let there = holds-made (held s.pairs) s.tables.made m T h c.args.key.location.0 c.in_ok-check.ensures.made in
    let none = holds-none (held s.pairs) s.tables.made m T h c.args.key first in (
      there,
      takes-new (room s.pairs) T _ _ there none ∙ lt-ltb _ _ (omega (arith, holds-pairs (held s.pairs) s.tables.made m T h, c.in-Ok.ensures.full)),
      holds-push (held s.pairs) s.tables.made m T h c.args.key c.args.value _ (grind (arith, c.in-Ok.ensures.held)) first c.in_ok-check.ensures.made,
    )

pub returns-in-Err-clause-holds : goal.returns-in-Err-clause-holds
returns-in-Err-clause-holds c = λ T h.
    let s = c.args.self.now in
    let m = memory_of c.args.bytes in
    let there = holds-made (held s.pairs) s.tables.made m T h c.args.key.location.0 c.in_ok-check.ensures.made in
    let none = holds-none (held s.pairs) s.tables.made m T h c.args.key c.in-None.ensures.first in
    rw c.in-Err.ensures.held
    (there, takes-new (room s.pairs) T _ _ there none ∙ le-ltb _ _ (omega (arith, holds-pairs (held s.pairs) s.tables.made m T h, c.in-Err.ensures.full.1)), h)

pub returns-in-Err-clause-refusal : goal.returns-in-Err-clause-refusal
returns-in-Err-clause-refusal c = same_store c.push.new.self c.args.self.now.pairs c.args.self.now.tables _ _ c.in-Err.ensures.refused
