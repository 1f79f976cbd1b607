-- A new entry and its chain: the last of the chain leads to it, or it begins the chain. Assumes nothing.
use Rattle.std.proofs.Common.{◌≡◌, ℕ, ◌+◌, ◌<◌, ◌≤◌, ◌⊎◌, List, map, length, get_or, take, set, Some, None, Option, MatchOption, sym, refl, ap, ◌∙◌, subst, inl, inr, arith}
use Rattle.std.specs.List.{AllByRecursion}
use Rattle.std.specs.Option.{unwrap_or}
use Rattle.std.proofs.lemmas.List.{length-set, get_or-set_other, take-set-le}
use Rattle.text.specs.Memory.{Memory}
use Rattle.text.specs.First.{first_place}
use Rattle.store.specs.Val.{Val, end_of}
use Rattle.store.specs.Tables.{Tables}
use Rattle.store.specs.Filed.{place_of, same_place, Files}
use Rattle.buckets.specs.declared.Chained.{Chained}
use Rattle.buckets.specs.declared.Chain.{Chain}
use Rattle.buckets.specs.Chains.{unused, unlinked, first_at, Begun}
use Rattle.buckets.specs.Stored.{pair_of, InPlace, Holds, Inside}
use Rattle.buckets.proofs.Chaining.{Linked, linked-beyond, linked-begin, linked-lead, linked-append, last-low}
use Rattle.buckets.proofs.Storing.{led, holds-lead, first-lead, inside-lead}

-- the chain that a new entry at len joins: the bucket's, or one that begins and ends with the entry
abbrev pub Joined : List Chained → List Chain → ℕ → ℕ → Chain → Type 0
Joined es cs len b c = (Begun es cs len b × (c ≡ get_or cs b unlinked)) ⊎ ((Begun es cs len b → ⊥) × (c ≡ record { first = len; last = len }))

pub joined : (es : List Chained) (cs : List Chain) (len b : ℕ) (r : Option Chain) (c : Chain) → MatchOption r (Begun es cs len b → ⊥) (λ c. Begun es cs len b × (c ≡ get_or cs b unlinked)) → c ≡ unwrap_or r (record { first = len; last = len }) → Joined es cs len b c
joined es cs len b None c h e = inr (h, e)
joined es cs len b (Some d) c h e = inl (h.0, e ∙ h.1)

-- its last entry leads to len
abbrev pub led_on : List Chained → ℕ → ℕ → List Chained
led_on es t n = set es t (led (get_or es t unused) n)

module _ (es : List Chained) (cs : List Chain) (len b : ℕ) (c : Chain) (fit : len ≤ length es) (k : Linked es cs len) (j : Joined es cs len b c) where
  low : Begun es cs len b × (c ≡ get_or cs b unlinked) → c.last < len
  low z = let e = ap (λ (x : Chain). x.last) z.1 in let l = last-low es cs len b k fit z.0 in omega (arith, e, l)

  pub last_within : len < length es → c.last < length es
  last_within room = elim j [
    | inl z ↦ let l = low z in omega (arith, l)
    | inr z ↦ let e = ap (λ (x : Chain). x.last) z.1 in omega (arith, e)
  ]

  pub linked-led : Linked (led_on es c.last len) cs len
  linked-led = elim j [
    | inl z ↦ subst (λ (x : Chain). Linked (led_on es x.last len) cs len) (sym z.1) (linked-lead es cs len b k fit z.0 _ refl)
    | inr z ↦ subst (λ (x : Chain). Linked (led_on es x.last len) cs len) (sym z.1) (linked-beyond es cs len k len _ (omega arith))
  ]

  pub linked-joined : (e : Chained) → len < length es → b < length cs → e.bucket ≡ b → Linked (set (led_on es c.last len) len e) (set cs b (record { first = c.first; last = len })) (len + 1)
  linked-joined e room inb is =
      let P : Chain → Type 0 = λ (x : Chain). Linked (set (led_on es x.last len) len e) (set cs b (record { first = x.first; last = len })) (len + 1) in
      elim j [
        | inl z ↦ subst P (sym z.1) (linked-append es cs len b k fit z.0 _ e refl refl room inb is)
        | inr z ↦
            let r = led (get_or es len unused) len in
            let es' = set es len r in
            let none : Begun es' cs len b → ⊥ = λ h. z.0 (h.0, sym (ap (λ (x : Chained). x.bucket) (get_or-set_other es len (first_at cs b) r unused (λ q. omega (arith, h.0)))) ∙ h.1) in
            subst P (sym z.1) (linked-begin es' cs len (linked-beyond es cs len k len r (omega arith)) b e (omega (arith, length-set es len r)) inb is none)
      ]

  -- what the entries mean stays
  kept : c.last ≡ len → take len (led_on es c.last len) ≡ take len es
  kept e = take-set-le len es c.last (led (get_or es c.last unused) len) (omega (arith, e))

  pub inside-led : (u : ℕ) → Inside es len u → Inside (led_on es c.last len) len u
  inside-led u a = elim j [
    | inl z ↦ inside-lead es len fit u c.last len (low z) a
    | inr z ↦ subst (AllByRecursion (λ (e : Chained). (end_of e.key.value ≤ u) × (end_of e.value ≤ u))) (sym (kept (ap (λ (x : Chain). x.last) z.1))) a
  ]

  module _ (many n : ℕ) (m : Memory) (T : Tables) (h : Holds es many len n m T) where
    pub holds-led : Holds (led_on es c.last len) many len n m T
    holds-led = elim j [
      | inl z ↦ holds-lead es len fit many n m T h c.last len (low z)
      | inr z ↦
          let q = sym (kept (ap (λ (x : Chain). x.last) z.1)) in
          record { files = subst (λ (xs : List Chained). Files (map (pair_of m) xs) n T) q h.files; placed = subst (InPlace many m) q h.placed }
    ]

    pub first-led : (p : ℕ × Val) → first_place (λ (e : Chained). same_place (place_of m e.key) p) (take len es) ≡ first_place (λ (e : Chained). same_place (place_of m e.key) p) (take len (led_on es c.last len))
    first-led p = elim j [
      | inl z ↦ first-lead es len fit many n m T h c.last len p (low z)
      | inr z ↦ ap (first_place (λ (e : Chained). same_place (place_of m e.key) p)) (sym (kept (ap (λ (x : Chain). x.last) z.1)))
    ]
