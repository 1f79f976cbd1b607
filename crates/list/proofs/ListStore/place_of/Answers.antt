use Rattle.std.proofs.Common.{◌≡◌}
use Rattle.text.specs.Memory.{memory_of}
use Rattle.text.proofs.Firsts.{first_place-from-first}
use Rattle.store.specs.Filed.{place_of, same_place}
use Rattle.store.specs.ValuesLemmas.{decides-place}
use Rattle.list.specs.declared.Pair.{Pair}
use Rattle.list.proofs.ListStore.place_of.Goals as goal

pub returns-clause-first : goal.returns-clause-first
returns-clause-first c =
    let m = memory_of c.args.bytes in
    let k = place_of m c.args.key in
    first_place-from-first (λ (p : Pair). place_of m p.key ≡ k) (λ (p : Pair). same_place (place_of m p.key) k) (λ p. decides-place (place_of m p.key) k) _ _
    (rw c.items.ensures at c.first_equal.ensures.first)
