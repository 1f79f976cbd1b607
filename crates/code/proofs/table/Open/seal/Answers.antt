use Rattle.std.proofs.Common.{◌≡◌, ℕ, ◌++◌, List, length, take, ap, ◌∙◌, arith}
use Rattle.std.proofs.lemmas.List.{take-append-le, take_all}
use Rattle.code.specs.declared.table.Extent.{Extent}
use Rattle.code.proofs.Laying.{more-functions}
use Rattle.code.proofs.table.Open.seal.Goals as goal

-- what was copied to the front
front : (n : ℕ) (a b c : List Extent) → a ≡ c → n ≡ length c → take n (a ++ b) ≡ c
front n a b c e h =
    let l : n ≡ length a = omega (arith, ap length e) in
    take-append-le n a b (omega arith) ∙ take_all n a (omega arith) ∙ e

pub returns : goal.returns
returns c =
    record {
      all_that_was_laid = λ m xs P d l.
          more-functions l _ (front _ _ _ _ (c.copy_from_slice.ensures.after ∙ c.deref.ensures.0) (omega arith) ∙ c.push.ensures.items);
    }
