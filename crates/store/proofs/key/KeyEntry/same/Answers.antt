use Rattle.std.proofs.Common.{◌&&◌, ap, ◌∙◌}
use Rattle.std.proofs.lemmas.Bool.Decides.{same_from_decides}
use Rattle.text.specs.Memory.{memory_of}
use Rattle.store.specs.Val.{meaning, equal_val}
use Rattle.store.specs.Filed.{same_place}
use Rattle.store.specs.ValuesLemmas.{decides-val}
use Rattle.store.proofs.key.KeyEntry.same.Goals as goal

pub returns-then-eq : goal.returns-then-eq
unfolding same_place
returns-then-eq c =
    let m = memory_of c.args.bytes in
    let x = meaning m c.args.self.now.value in
    let y = meaning m c.args.other.now.value in
    same_from_decides c.same.result (equal_val x y) c.same.ensures (decides-val x y) ∙ ap (λ t. t && equal_val x y) c.if-eq.ensures

pub returns-else-eq : goal.returns-else-eq
unfolding same_place
returns-else-eq c =
    let m = memory_of c.args.bytes in
    c.if-eq.false ∙ ap (λ t. t && equal_val (meaning m c.args.self.now.value) (meaning m c.args.other.now.value)) c.if-eq.ensures
