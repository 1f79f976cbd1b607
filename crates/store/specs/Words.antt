-- What a refusal is told in. Assumes nothing.
use Rattle.std.specs.Prelude.{ℕ, List, codes}
use Rattle.store.specs.declared.capacity.TooLarge.{TooLarge}
use Rattle.store.specs.declared.capacity.TooLarge.TheVariants as capacity
use Rattle.store.specs.declared.Refusal.{Refusal}
use Rattle.store.specs.declared.Refusal.TheVariants as refusal

abbrev pub words_of : TooLarge → List ℕ
words_of capacity.Tables = codes "too many tables"
words_of capacity.Pairs = codes "too many pairs"

abbrev pub refused_in : Refusal → List ℕ
refused_in refusal.NoTable = codes "no such table"
refused_in refusal.Full = codes "full"
