-- What keeps the chains: a value replaced, the last entry led on, a new entry at the end. Assumes nothing.
use Rattle.std.proofs.Common.{◌≡◌, ℕ, ◌+◌, ◌<◌, ◌≤◌, ◌⊎◌, List, length, set, sym, ap, ◌∙◌, subst, inl, inr, ⊎_elim, arith}
use Rattle.std.proofs.lemmas.List.{length-set, get_or-set_same, get_or-set_other}
use Rattle.std.proofs.lemmas.Bool.{cases_lt, cases_eq}
use Rattle.buckets.specs.declared.Chained.{Chained}
use Rattle.buckets.specs.declared.Chain.{Chain}
use Rattle.buckets.specs.declared.BucketStore.{BucketStore}
use Rattle.buckets.specs.Chains.{unused, unlinked, bucket_at, next_at, first_at, last_at, Firsts, Lasts, Nexts, Gaps}
use Rattle.buckets.proofs.Walking.{chain-empty, chain-over}

-- entries that stay in their buckets, with the same next
module _ (bk nx fs ls bk' nx' : ℕ → ℕ) (len : ℕ) (sb : (j : ℕ) → j < len → bk' j ≡ bk j) where
  pub firsts-kept : Firsts bk fs len → Firsts bk' fs len
  firsts-kept f i h =
      let e = ap fs (sb i h) in
      let z = f i h in
      (omega (arith, e, z.0), ap bk' e ∙ sb (fs (bk i)) (omega (arith, z.0)) ∙ z.1 ∙ sym (sb i h))

  pub lasts-kept : Lasts bk ls len → Lasts bk' ls len
  lasts-kept l i h =
      let e = ap ls (sb i h) in
      let z = l i h in
      (omega (arith, e, z.0), omega (arith, e, z.1), ap bk' e ∙ sb (ls (bk i)) z.1 ∙ z.2 ∙ sym (sb i h))

  module _ (sn : (j : ℕ) → j < len → (j < ls (bk j)) → nx' j ≡ nx j) (lasts : Lasts bk ls len) where
    pub nexts-kept : Nexts bk nx ls len → Nexts bk' nx' ls len
    nexts-kept n i h =
        let e = ap ls (sb i h.0) in
        let lt : i < ls (bk i) = omega (arith, e, h.1) in
        let s = sn i h.0 lt in
        let z = n i (h.0, lt) in
        let low : nx i < len = omega (arith, z.1, (lasts i h.0).1) in
        (omega (arith, s, z.0), omega (arith, s, e, z.1), ap bk' s ∙ sb (nx i) low ∙ z.2 ∙ sym (sb i h.0))

    pub gaps-kept : Gaps bk nx len → Gaps bk' nx' len
    gaps-kept g i j h =
        let li : i < len = omega (arith, h.0, h.1) in
        let same : bk j ≡ bk i = sym (sb j h.1) ∙ h.3 ∙ sb i li in
        let lt : i < ls (bk i) = let z = subst (λ (b : ℕ). j ≤ ls b) same (lasts j h.1).0 in omega (arith, h.0) in
        let s = sn i li lt in
        g i j (h.0, h.1, omega (arith, s, h.2), same)

-- a new entry n of bucket b at the end of its chain
module _ (bk nx fs ls bk' nx' fs' ls' : ℕ → ℕ) (n b f : ℕ)
    (old : (j : ℕ) → j < n → bk' j ≡ bk j) (new : bk' n ≡ b)
    (on : (j : ℕ) → j < n → nx' j ≡ nx j)
    (fb : fs' b ≡ f) (fo : (c : ℕ) → (c ≡ b → ⊥) → fs' c ≡ fs c)
    (lb : ls' b ≡ n) (lo : (c : ℕ) → (c ≡ b → ⊥) → ls' c ≡ ls c)
    (top : (f ≤ n) × (bk' f ≡ b))
    (begin : (i : ℕ) → i < n → bk i ≡ b → f ≤ i)
    (lead : (i : ℕ) → i < n → bk i ≡ b → (i < nx i) × (nx i ≤ n) × (bk' (nx i) ≡ b)) where
  -- an entry is new, or of the bucket, or of another
  which : (i : ℕ) → i < n + 1 → (i ≡ n) ⊎ (((i < n) × (bk i ≡ b)) ⊎ ((i < n) × (bk i ≡ b → ⊥)))
  which i h = ⊎_elim
      (λ (e : i ≡ n). inl e)
      (λ (ne : i ≡ n → ⊥).
      let lt : i < n = omega (arith, ne) in
      inr (⊎_elim (λ (e : bk i ≡ b). inl (lt, e)) (λ (o : bk i ≡ b → ⊥). inr (lt, o)) (cases_eq (bk i) b)))
      (cases_eq i n)

  pub firsts-pushed : Firsts bk fs n → Firsts bk' fs' (n + 1)
  firsts-pushed firsts i h = elim (which i h) [
    | inl e ↦ let q = ap bk' e ∙ new in let p = ap fs' q ∙ fb in (omega (arith, p, top.0), ap bk' p ∙ top.1 ∙ sym q)
    | inr (inl z) ↦ let q = old i z.0 ∙ z.1 in let p = ap fs' q ∙ fb in (omega (arith, p, begin i z.0 z.1), ap bk' p ∙ top.1 ∙ sym q)
    | inr (inr z) ↦
        let q = old i z.0 in
        let p = ap fs' q ∙ fo (bk i) z.1 in
        let w = firsts i z.0 in
        (omega (arith, p, w.0), ap bk' p ∙ old (fs (bk i)) (omega (arith, w.0, z.0)) ∙ w.1 ∙ sym q)
  ]

  pub lasts-pushed : Lasts bk ls n → Lasts bk' ls' (n + 1)
  lasts-pushed lasts i h = elim (which i h) [
    | inl e ↦ let q = ap bk' e ∙ new in let p = ap ls' q ∙ lb in (omega (arith, p), omega (arith, p), ap bk' p ∙ new ∙ sym q)
    | inr (inl z) ↦ let q = old i z.0 ∙ z.1 in let p = ap ls' q ∙ lb in (omega (arith, p), omega (arith, p), ap bk' p ∙ new ∙ sym q)
    | inr (inr z) ↦
        let q = old i z.0 in
        let p = ap ls' q ∙ lo (bk i) z.1 in
        let w = lasts i z.0 in
        (omega (arith, p, w.0), omega (arith, p, w.1), ap bk' p ∙ old (ls (bk i)) w.1 ∙ w.2 ∙ sym q)
  ]

  pub nexts-pushed : Lasts bk ls n → Nexts bk nx ls n → Nexts bk' nx' ls' (n + 1)
  nexts-pushed lasts nexts i h = elim (which i h.0) [
    | inl e ↦ let p = ap ls' (ap bk' e ∙ new) ∙ lb in absurd (omega (arith, p, h.1))
    | inr (inl z) ↦
        let q = old i z.0 ∙ z.1 in
        let p = ap ls' q ∙ lb in
        let w = lead i z.0 z.1 in
        let s = on i z.0 in
        (omega (arith, s, w.0), omega (arith, s, p, w.1), ap bk' s ∙ w.2 ∙ sym q)
    | inr (inr z) ↦
        let q = old i z.0 in
        let p = ap ls' q ∙ lo (bk i) z.1 in
        let w = nexts i (z.0, omega (arith, p, h.1)) in
        let s = on i z.0 in
        (omega (arith, s, w.0), omega (arith, s, p, w.1), ap bk' s ∙ old (nx i) (omega (arith, w.1, (lasts i z.0).1)) ∙ w.2 ∙ sym q)
  ]

  pub gaps-pushed : Gaps bk nx n → Gaps bk' nx' (n + 1)
  gaps-pushed gaps i j h =
      let li : i < n = omega (arith, h.0, h.1) in
      let s = on i li in
      ⊎_elim
      (λ (lt : j < n). gaps i j (h.0, lt, omega (arith, s, h.2), sym (old j lt) ∙ h.3 ∙ old i li))
      (λ (le : n ≤ j).
      let e : j ≡ n = omega (arith, h.1) in
      let w = lead i li (sym (old i li) ∙ sym h.3 ∙ ap bk' e ∙ new) in
      absurd (omega (arith, s, w.1, h.2)))
      (cases_lt j n)

-- the links of the first len entries, in the order of a store's ghost fields
abbrev pub Linked : List Chained → List Chain → ℕ → Type 0
Linked es cs len =
    Firsts (bucket_at es) (first_at cs) len
    × (Lasts (bucket_at es) (last_at cs) len
    × (Nexts (bucket_at es) (next_at es) (last_at cs) len
    × (Gaps (bucket_at es) (next_at es) len × Unit {0})))

bucket-set : (es : List Chained) (i : ℕ) (e : Chained) → i < length es → e.bucket ≡ bucket_at es i → (j : ℕ) → bucket_at (set es i e) j ≡ bucket_at es j
bucket-set es i e h same j = ⊎_elim
    (λ (q : j ≡ i). ap (bucket_at (set es i e)) q ∙ ap (λ (x : Chained). x.bucket) (get_or-set_same es i e unused h) ∙ same ∙ ap (bucket_at es) (sym q))
    (λ (n : j ≡ i → ⊥). ap (λ (x : Chained). x.bucket) (get_or-set_other es i j e unused n))
    (cases_eq j i)

next-set : (es : List Chained) (i : ℕ) (e : Chained) (j : ℕ) → (j ≡ i → ⊥) → next_at (set es i e) j ≡ next_at es j
next-set es i e j n = ap (λ (x : Chained). x.next) (get_or-set_other es i j e unused n)

module _ (es : List Chained) (cs : List Chain) (len : ℕ) (k : Linked es cs len) where
  kept : (es' : List Chained) → ((j : ℕ) → j < len → bucket_at es' j ≡ bucket_at es j) → ((j : ℕ) → j < len → j < last_at cs (bucket_at es j) → next_at es' j ≡ next_at es j) → Linked es' cs len
  kept es' b n = (
    firsts-kept (bucket_at es) (next_at es) (first_at cs) (last_at cs) (bucket_at es') (next_at es') len b k.0,
    (
      lasts-kept (bucket_at es) (next_at es) (first_at cs) (last_at cs) (bucket_at es') (next_at es') len b k.1.0,
      (
        nexts-kept (bucket_at es) (next_at es) (first_at cs) (last_at cs) (bucket_at es') (next_at es') len b n k.1.0 k.1.1.0,
        (gaps-kept (bucket_at es) (next_at es) (first_at cs) (last_at cs) (bucket_at es') (next_at es') len b n k.1.0 k.1.1.1.0, tt),
      ),
    ),
  )

  -- an entry that keeps its bucket, and its next unless it is the last of its chain
  pub linked-set : (i : ℕ) (e : Chained) → i < length es → e.bucket ≡ bucket_at es i → (i < last_at cs (bucket_at es i) → e.next ≡ next_at es i) → Linked (set es i e) cs len
  linked-set i e h sb sn =
      let b : (j : ℕ) → j < len → bucket_at (set es i e) j ≡ bucket_at es j = λ j _. bucket-set es i e h sb j in
      let n : (j : ℕ) → j < len → j < last_at cs (bucket_at es j) → next_at (set es i e) j ≡ next_at es j =
      λ j _ lt. ⊎_elim
      (λ (q : j ≡ i).
      ap (next_at (set es i e)) q ∙ ap (λ (x : Chained). x.next) (get_or-set_same es i e unused h)
      ∙ sn (subst (λ (x : ℕ). x < last_at cs (bucket_at es x)) q lt) ∙ ap (next_at es) (sym q))
      (λ (o : j ≡ i → ⊥). next-set es i e j o)
      (cases_eq j i)
      in
      kept (set es i e) b n

  -- an entry that does not count yet
  pub linked-beyond : (i : ℕ) (e : Chained) → len ≤ i → Linked (set es i e) cs len
  linked-beyond i e h =
      let b : (j : ℕ) → j < len → bucket_at (set es i e) j ≡ bucket_at es j = λ j q. ap (λ (x : Chained). x.bucket) (get_or-set_other es i j e unused (λ z. omega arith)) in
      let n : (j : ℕ) → j < len → j < last_at cs (bucket_at es j) → next_at (set es i e) j ≡ next_at es j = λ j q _. next-set es i e j (λ z. omega arith) in
      kept (set es i e) b n

  module _ (b f : ℕ) (e : Chained) (room : len < length es) (inb : b < length cs) (is : e.bucket ≡ b)
      (top : (f ≤ len) × (bucket_at (set es len e) f ≡ b))
      (begin : (i : ℕ) → i < len → bucket_at es i ≡ b → f ≤ i)
      (lead : (i : ℕ) → i < len → bucket_at es i ≡ b → (i < next_at es i) × (next_at es i ≤ len) × (bucket_at (set es len e) (next_at es i) ≡ b)) where
    pub linked-push : Linked (set es len e) (set cs b (record { first = f; last = len })) (len + 1)
    linked-push =
        let es' = set es len e in
        let c : Chain = record { first = f; last = len } in
        let cs' = set cs b c in
        let old : (j : ℕ) → j < len → bucket_at es' j ≡ bucket_at es j = λ j h. ap (λ (x : Chained). x.bucket) (get_or-set_other es len j e unused (λ q. omega arith)) in
        let new : bucket_at es' len ≡ b = ap (λ (x : Chained). x.bucket) (get_or-set_same es len e unused room) ∙ is in
        let on : (j : ℕ) → j < len → next_at es' j ≡ next_at es j = λ j h. next-set es len e j (λ q. omega arith) in
        let fb : first_at cs' b ≡ f = ap (λ (x : Chain). x.first) (get_or-set_same cs b c unlinked inb) in
        let fo : (d : ℕ) → (d ≡ b → ⊥) → first_at cs' d ≡ first_at cs d = λ d n. ap (λ (x : Chain). x.first) (get_or-set_other cs b d c unlinked n) in
        let lb : last_at cs' b ≡ len = ap (λ (x : Chain). x.last) (get_or-set_same cs b c unlinked inb) in
        let lo : (d : ℕ) → (d ≡ b → ⊥) → last_at cs' d ≡ last_at cs d = λ d n. ap (λ (x : Chain). x.last) (get_or-set_other cs b d c unlinked n) in (
          firsts-pushed (bucket_at es) (next_at es) (first_at cs) (last_at cs) (bucket_at es') (next_at es') (first_at cs') (last_at cs') len b f old new on fb fo lb lo top begin lead k.0,
          (
            lasts-pushed (bucket_at es) (next_at es) (first_at cs) (last_at cs) (bucket_at es') (next_at es') (first_at cs') (last_at cs') len b f old new on fb fo lb lo top begin lead k.1.0,
            (
              nexts-pushed (bucket_at es) (next_at es) (first_at cs) (last_at cs) (bucket_at es') (next_at es') (first_at cs') (last_at cs') len b f old new on fb fo lb lo top begin lead k.1.0 k.1.1.0,
              (gaps-pushed (bucket_at es) (next_at es) (first_at cs) (last_at cs) (bucket_at es') (next_at es') (first_at cs') (last_at cs') len b f old new on fb fo lb lo top begin lead k.1.1.1.0, tt),
            ),
          ),
        )

  -- the first entry of a bucket
  pub linked-begin : (b : ℕ) (e : Chained) → len < length es → b < length cs → e.bucket ≡ b → ((first_at cs b < len) × (bucket_at es (first_at cs b) ≡ b) → ⊥)
      → Linked (set es len e) (set cs b (record { first = len; last = len })) (len + 1)
  linked-begin b e room inb is none =
      let empty = chain-empty (bucket_at es) (next_at es) (first_at cs) (last_at cs) len b k.0 (λ lt q. none (lt, q)) in
      linked-push b len e room inb is
      (omega arith, ap (λ (x : Chained). x.bucket) (get_or-set_same es len e unused room) ∙ is)
      (λ i h q. absurd (empty i h q)) (λ i h q. absurd (empty i h q))

-- an entry behind the last of its bucket, which leads to it
module _ (es : List Chained) (cs : List Chain) (len b : ℕ) (k : Linked es cs len) (fit : len ≤ length es) (begun : (first_at cs b < len) × (bucket_at es (first_at cs b) ≡ b)) where
  pub last-low : last_at cs b < len
  last-low = subst (λ (x : ℕ). last_at cs x < len) begun.1 (k.1.0 (first_at cs b) begun.0).1

  last-bucket : bucket_at es (last_at cs b) ≡ b
  last-bucket = subst (λ (x : ℕ). bucket_at es (last_at cs x) ≡ x) begun.1 (k.1.0 (first_at cs b) begun.0).2

  pub last_within : last_at cs b < length es
  last_within = omega (arith, last-low)

  pub linked-lead : (r : Chained) → r.bucket ≡ bucket_at es (last_at cs b) → Linked (set es (last_at cs b) r) cs len
  linked-lead r is = linked-set es cs len k (last_at cs b) r last_within is
      (λ lt. absurd (let z = ap (last_at cs) last-bucket in omega arith))

  pub linked-append : (r e : Chained) → r.bucket ≡ bucket_at es (last_at cs b) → r.next ≡ len → len < length es → b < length cs → e.bucket ≡ b
      → Linked (set (set es (last_at cs b) r) len e) (set cs b (record { first = first_at cs b; last = len })) (len + 1)
  linked-append r e rb rn room inb is =
      let t = last_at cs b in
      let es' = set es t r in
      let same : (j : ℕ) → bucket_at es' j ≡ bucket_at es j = bucket-set es t r last_within rb in
      let room' : len < length es' = omega (arith, length-set es t r) in
      let old : (j : ℕ) → j < len → bucket_at (set es' len e) j ≡ bucket_at es' j = λ j h. ap (λ (x : Chained). x.bucket) (get_or-set_other es' len j e unused (λ q. omega arith)) in
      let new : bucket_at (set es' len e) len ≡ b = ap (λ (x : Chained). x.bucket) (get_or-set_same es' len e unused room') ∙ is in
      linked-push es' cs len (linked-lead r rb) b (first_at cs b) e room' inb is
      (omega (arith, begun.0), old (first_at cs b) begun.0 ∙ same (first_at cs b) ∙ begun.1)
      (λ i h q. subst (λ (x : ℕ). first_at cs x ≤ i) (sym (same i) ∙ q) (k.0 i h).0)
      (λ i h q.
      let o : bucket_at es i ≡ b = sym (same i) ∙ q in
      ⊎_elim
      (λ (p : i ≡ t).
      let s : next_at es' i ≡ len = ap (next_at es') p ∙ ap (λ (x : Chained). x.next) (get_or-set_same es t r unused last_within) ∙ rn in
      (omega (arith, s), omega (arith, s), ap (bucket_at (set es' len e)) s ∙ new))
      (λ (p : i ≡ t → ⊥).
      let s : next_at es' i ≡ next_at es i = next-set es t r i p in
      let lt : i < t = let z = chain-over (bucket_at es) (next_at es) (first_at cs) (last_at cs) len b k.1.0 i h o in omega (arith, p) in
      let u = ap (last_at cs) o in
      let w = k.1.1.0 i (h, omega (arith, u, lt)) in
      let low : next_at es i < len = omega (arith, w.1, u, last-low) in
      (omega (arith, s, w.0), omega (arith, s, low), ap (bucket_at (set es' len e)) s ∙ old (next_at es i) low ∙ same (next_at es i) ∙ w.2 ∙ o))
      (cases_eq i t))

-- a store's links
pub links : (s : BucketStore) → Linked s.entries.now s.chains.now s.len
links s = (s.firsts, (s.lasts, (s.nexts, (s.gaps, tt))))

pub fit : (s : BucketStore) → s.len ≤ length s.entries.now
fit s = omega (arith, s.filled, s.entered)

pub long-set : {A : Type 0} (n : ℕ) (xs : List A) (i : ℕ) (x : A) → n ≤ length xs → n ≤ length (set xs i x)
long-set n xs i x h = omega (arith, length-set xs i x)
