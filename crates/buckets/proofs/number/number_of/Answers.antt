use Rattle.std.proofs.Common.{◌≡◌, ℕ, ◌+◌, ◌-◌, ◌*◌, ◌/◌, List, length, get_or, sym, ap, ◌∙◌, arith}
use Rattle.text.specs.Memory.{memory_of, bytes_of}
use Rattle.text.specs.Meanings.{length-bytes_of}
use Rattle.store.specs.declared.value.Value.{Value}
use Rattle.store.specs.Val.{Val, meaning}
use Rattle.buckets.specs.Numbers.{number_of}
use Rattle.buckets.proofs.number.number_of.Goals as goal

number-string : (t : List ℕ) (n a b c i : ℕ) → length t ≡ n → a ≡ get_or t 0 0 → b ≡ get_or t (n / 2) 0 → c ≡ get_or t i 0 → i ≡ n - 1 → n + a * 3 + b * 5 + c * 7 ≡ number_of (Val.string t)
number-string t n a b c i e p q r s =
    let y = q ∙ ap (λ (k : ℕ). get_or t (k / 2) 0) (sym e) in
    let z = r ∙ ap (λ (k : ℕ). get_or t k 0) s ∙ ap (λ (k : ℕ). get_or t (k - 1) 0) (sym e) in
    λ i. sym e i + p i * 3 + y i * 5 + z i * 7

pub returns-in-Str : goal.returns-in-Str
returns-in-Str c =
    let m = memory_of c.args.bytes in
    let s = c.in-Str.s in
    record {
      value =
          (λ i. c.from.ensures i + c.from-in-Str.ensures i * 3 + c.from-in-Str-2.ensures i * 5 + c.from-in-Str-3.ensures i * 7)
          ∙ number-string (bytes_of m s) s.len _ _ _ _ (length-bytes_of m s) c.byte_of-first.ensures c.byte_of-middle.ensures c.byte_of-last.ensures c.saturating_sub.ensures
          ∙ ap (λ (k : Value). number_of (meaning m k)) (sym c.in-Str.is);
      small = omega arith;
    }
