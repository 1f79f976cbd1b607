-- What a print or a new string leaves, as the effects say.
use Rattle.std.proofs.Common.{◌≡◌, ℕ, ◌+◌, ◌-◌, ◌<◌, ◌≤◌, List, ◌++◌, length, take, Ok, Err, sym, refl, ap, ◌∙◌, add-one, inl, inr, arith}
use borrow.Rule.Slice.PartMut.{put_mid}
use Rattle.std.proofs.lemmas.Bool.{cases_lt, le-leb, lt-leb, le-ltb, lt-ltb}
use Rattle.machine.specs.declared.ending.Ending.{Ending}
use Rattle.machine.specs.declared.ending.Ending.TheVariants.{NoTextSpace, NoOutputSpace}
use Rattle.machine.specs.Limits.{most_strings, most_string_bytes}
use Rattle.machine.specs.Effects.{Effects, charge, print}
use Rattle.effects.specs.declared.output.Output.{Output}
use Rattle.effects.specs.Laid.{laid}
use Rattle.effects.specs.declared.strings.Strings.{Strings}
use Rattle.effects.specs.Spending.{effects_with, Prints}
use Rattle.effects.proofs.Laying.{laid-at-once, take-laid, length-laid}

module _ (s : List ℕ) (o : Output) where
  pub print-fits : (ys after : List ℕ) (end : ℕ) → ys ≡ s → end ≡ o.printed + length s → end ≤ length o.bytes.now → after ≡ put_mid o.printed (end - o.printed) o.bytes.now ys → ((p : Strings) → print s (effects_with p o) ≡ Ok (record { strings = p.count; bytes = p.used; output = take end after; left = length after - end })) × (after ≡ laid o.bytes.now o.printed s)
  unfolding print
  print-fits ys after end same e h put =
      let laid : after ≡ laid o.bytes.now o.printed s = put ∙ ap (put_mid o.printed (end - o.printed) o.bytes.now) same ∙ laid-at-once o.bytes.now s o.printed (end - o.printed) (omega arith) in
      let fits = le-leb (length s) (length o.bytes.now - o.printed) (omega arith) in
      let shown : take o.printed o.bytes.now ++ s ≡ take end after = rw (e, laid) (sym (take-laid o.bytes.now s o.printed (omega arith))) in
      let rest : length o.bytes.now - o.printed - length s ≡ length after - end = omega (arith, ap length laid ∙ length-laid o.bytes.now s o.printed (omega arith)) in
      (λ p. rw fits (ap Ok (λ i. record { strings = p.count; bytes = p.used; output = shown i; left = rest i })), laid)

  pub print-full : (e : Ending) (n : ℕ) → n ≡ length s → e ≡ NoOutputSpace → length o.bytes.now < o.printed + n → Prints s o (Err e) o
  unfolding print
  print-full e n k is l = (λ p. rw (is, lt-leb (length s) (length o.bytes.now - o.printed) (omega (arith, o.within))), refl)

module _ (n : ℕ) (o : Effects) where
  pub charge-fits : o.strings < most_strings → o.bytes + n ≤ most_string_bytes → charge n o ≡ Ok (record { strings = o.strings + 1; bytes = o.bytes + n; output = o.output; left = o.left })
  unfolding charge
  charge-fits h k =
      rw (lt-ltb o.strings most_strings h, le-leb (o.bytes + n) most_string_bytes k)
      (ap Ok (λ i. record { strings = sym (add-one o.strings) i; bytes = o.bytes + n; output = o.output; left = o.left }))

  pub charge-full : (o.strings < most_strings → most_string_bytes < o.bytes + n) → charge n o ≡ Err NoTextSpace
  unfolding charge
  charge-full h =
      elim (cases_lt o.strings most_strings) [
        | inl a ↦ rw (lt-ltb o.strings most_strings a, lt-leb (o.bytes + n) most_string_bytes (h a))
        | inr b ↦ rw (le-ltb o.strings most_strings b)
      ]
