-- Registers laid over others.
use Rattle.std.proofs.Common.{◌≡◌, ℕ, ◌+◌, ◌-◌, ◌≤◌, List, length, take, replicate, None, Option, arith, rules}
use borrow.Rule.Slice.PartMut.{put_mid}
use Rattle.std.proofs.lemmas.List.{same_lists, places, take_at, length-take-le}
use Rattle.std.specs.List.{copy_within}
use Rattle.store.specs.declared.value.Value.{Value}
use Rattle.machine.specs.Limits.{registers_per_frame}
use Rattle.calls.specs.Passing.{laid, handed}

module _ {X : Type 0} where
  pub take-laid : (xs ys : List X) (at : ℕ) → at ≤ length xs → take at (laid xs at ys) ≡ take at xs
  take-laid xs ys at h = take_at (take at xs) _ at (length-take-le at xs h)

-- registers copied behind others, and the rest of a frame unset
pub passed-laid : (xs copied unset : List (Option Value)) (to i j n k : ℕ) → n ≤ registers_per_frame → j - i ≡ n → k ≡ registers_per_frame - n → i + n ≤ length xs → to + registers_per_frame ≤ length xs → copied ≡ copy_within xs i j to → unset ≡ replicate k None → put_mid (to + n) k copied unset ≡ laid xs to (handed xs i n)
passed-laid xs copied unset to i j n k h em ek l t ec eu =
    rw (ec, eu, em, ek) (same_lists _ _ (search (rules, places)) (λ m d b. grind (arith, places)))
