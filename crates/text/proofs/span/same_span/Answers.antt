use Rattle.std.proofs.Common.{◌≡◌, ℕ, ◌+◌, ◌<◌, slice_index, Bool, true, false, Decides, MatchBool, length, subst, sym, ◌∙◌, refl, rules, tests, arith}
use Rattle.std.specs.List.{HoldsAt, AllWithin, range_with_len}
use Rattle.std.proofs.lemmas.Iterator.{cases_from_all, YieldsList-from_range}
use Rattle.std.proofs.lemmas.List.FromFn.{length-range_with_len, get_or-range_with_len}
use Rattle.text.specs.declared.span.Span.{Span}
use Rattle.text.specs.Memory.{Memory, memory_of, byte_of, bytes_of}
use Rattle.text.specs.Meanings.{not-true, same-from-bytes, length-from-same, byte-from-same}
use Rattle.text.proofs.span.same_span.Goals as goal

nth : (n k : ℕ) → k < n → slice_index (range_with_len 0 n) k ≡ k
nth n k l = get_or-range_with_len 0 n k 0 l ∙ omega arith

module _ (m : Memory) (a b : Span) where
  -- the bytes k of both are one
  abbrev Alike : ℕ → Type 0
  Alike k = byte_of m a.space (a.start + k) ≡ byte_of m b.space (b.start + k)

  decides : (r : Bool) → a.len ≡ b.len → (let ks = range_with_len 0 a.len in MatchBool r (AllWithin Alike ks 0 (length ks)) ((i : ℕ) × (i < length ks) × HoldsAt (λ k. Alike k → ⊥) ks i)) → Decides r (bytes_of m a ≡ bytes_of m b)
  decides true e h = (
    λ _. same-from-bytes m m a b e (λ k l. subst Alike (nth a.len k l) (h k 0 (omega arith) (omega (arith, length-range_with_len 0 a.len)))),
    λ _. refl,
  )
  decides false e h = (
    not-true,
    λ s. let l : h.0 < a.len = omega (arith, h.1, length-range_with_len 0 a.len) in absurd (h.2 0 (subst Alike (sym (nth a.len h.0 l)) (byte-from-same m m a b s h.0 l))),
  )

pub returns-then-a-b : goal.returns-then-a-b
returns-then-a-b c =
    let m = memory_of c.args.bytes in
    (not-true, λ e. let h = length-from-same m m c.args.a c.args.b e in absurd (omega arith))

pub returns-else-eq : goal.returns-else-eq
returns-else-eq c =
    let m = memory_of c.args.bytes in
    let a = c.args.a in
    let b = c.args.b in
    decides m a b c.all.result (omega arith)
    (cases_from_all _ _ _ (Alike m a b) (λ k. Alike m a b k → ⊥) c.all.ensures.ran (YieldsList-from_range 0 _ a.len refl (omega (arith, c.from.ensures))) (λ x q k. search (rules, tests)) (λ x q k. search (rules, tests)))
