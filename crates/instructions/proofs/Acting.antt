-- What the instructions that act leave, piece by piece.
use Rattle.std.proofs.Common.{◌≡◌, ℕ, ◌<◌, ◌≤◌, List, length, set, Some, Ok, Err, Option, Result, ap, arith}
use Rattle.std.proofs.lemmas.Bool.{lt-ltb, le-ltb}
use Rattle.text.specs.Memory.{Memory}
use Rattle.store.specs.declared.value.Value.{Value}
use Rattle.store.specs.Tables.{Tables}
use Rattle.machine.specs.declared.ending.Ending.{Ending}
use Rattle.machine.specs.declared.ending.Ending.TheVariants.{NoTableSpace}
use Rattle.machine.specs.Limits.{registers_per_frame}
use Rattle.operands.specs.Slots.{registers_of, answered}
use Rattle.instructions.specs.Local.{set_at, make_at}
use Rattle.operands.proofs.Slots.{slot-set}

pub answer-set : (m : Memory) (xs : List (Option Value)) (i : ℕ) (x : Result Value Ending) (v : Value) → x ≡ Ok v → length xs ≡ registers_per_frame → i < length xs → Ok (registers_of m (set xs i (Some v))) ≡ set_at i (answered m x) (registers_of m xs)
answer-set m xs i x v e n l = rw (e, lt-ltb i registers_per_frame (omega arith)) (ap Ok (slot-set m xs i v l))

module _ (t a : ℕ) (T : Tables) (l : a < registers_per_frame) where
  pub table-made : length T < t → make_at t a T ≡ Ok (length T)
  table-made h = rw (lt-ltb a registers_per_frame l, lt-ltb (length T) t h)

  pub table-refused : t ≤ length T → make_at t a T ≡ Err NoTableSpace
  table-refused h = rw (lt-ltb a registers_per_frame l, le-ltb (length T) t h)
