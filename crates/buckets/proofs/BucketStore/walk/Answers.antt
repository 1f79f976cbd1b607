use Rattle.std.proofs.Common.{◌≡◌, ℕ, ◌<◌, ◌≤◌, false, List, get_or, sym, ap, ◌∙◌, arith}
use Rattle.std.proofs.lemmas.Bool.Decides.{not_from_Decides}
use Rattle.text.specs.Memory.{Memory, memory_of}
use Rattle.store.specs.Val.{Val}
use Rattle.store.specs.Filed.{place_of, same_place}
use Rattle.store.specs.ValuesLemmas.{decides-place}
use Rattle.buckets.specs.declared.Chained.{Chained}
use Rattle.buckets.specs.declared.Chain.{Chain}
use Rattle.buckets.specs.Chains.{unused, bucket_at, next_at, first_at, last_at}
use Rattle.buckets.proofs.Walking.{first-here, first-nowhere, chain-empty, chain-over, none-up-to, next-later, next-below, next-bucket, next-follows}
use Rattle.buckets.proofs.Chaining.{fit}
use Rattle.buckets.proofs.BucketStore.walk.Goals as goal

pub returns-in_err-chain-clause-first : goal.returns-in_err-chain-clause-first
returns-in_err-chain-clause-first c =
    let s = c.args.self.now in
    let es = s.entries.now in
    let cs = s.chains.now in
    let m = memory_of c.args.bytes in
    let p = place_of m c.args.key.now in
    rw c.from_residual.ensures
    (first-nowhere (λ (e : Chained). (e.bucket ≡ c.args.bucket) × (place_of m e.key ≡ p)) es s.len (fit s)
    (λ j h q. chain-empty (bucket_at es) (next_at es) (first_at cs) (last_at cs) s.len c.args.bucket s.firsts (λ lt e. c.in_err-chain.ensures (lt, e)) j h q.0))

pub returns-then-same : goal.returns-then-same
returns-then-same c =
    let s = c.args.self.now in
    let es = s.entries.now in
    let cs = s.chains.now in
    let m = memory_of c.args.bytes in
    let p = place_of m c.args.key.now in
    let i = c.loop-chain.invariant in
    record {
      first = first-here (λ (e : Chained). (e.bucket ≡ c.args.bucket) × (place_of m e.key ≡ p)) es s.len (fit s) c.loop-chain.i i.0
          (i.1, (decides-place _ p).0 (sym c.if-same.ensures)) (λ j h q. i.2 j (h, q.0, q.1));
      within = i.0;
    }

-- none of the bucket up to here has the key
passed : (es : List Chained) (b : ℕ) (m : Memory) (p : ℕ × Val) (i : ℕ) → ((j : ℕ) → (j < i) × (bucket_at es j ≡ b) × (place_of m (get_or es j unused).key ≡ p) → ⊥) → false ≡ same_place (place_of m (get_or es i unused).key) p
    → (j : ℕ) → j ≤ i → (bucket_at es j ≡ b) × (place_of m (get_or es j unused).key ≡ p) → ⊥
passed es b m p i before here =
    none-up-to (λ (j : ℕ). (bucket_at es j ≡ b) × (place_of m (get_or es j unused).key ≡ p)) i (λ j h q. before j (h, q.0, q.1))
    (λ q. not_from_Decides _ (decides-place (place_of m (get_or es i unused).key) p) (sym here) q.1)

pub returns-then-i-chain : goal.returns-then-i-chain
returns-then-i-chain c =
    let s = c.args.self.now in
    let es = s.entries.now in
    let cs = s.chains.now in
    let m = memory_of c.args.bytes in
    let p = place_of m c.args.key.now in
    record {
      first = first-nowhere (λ (e : Chained). (e.bucket ≡ c.args.bucket) × (place_of m e.key ≡ p)) es s.len (fit s)
          (λ j h q. passed es c.args.bucket m p c.loop-chain.i c.loop-chain.invariant.2 c.if-same.ensures j (let z = chain-over (bucket_at es) (next_at es) (first_at cs) (last_at cs) s.len c.args.bucket s.lasts j h q.0 in let e = ap (λ (x : Chain). x.last) c.in_ok-chain.ensures.1 in omega (arith, z, e)) q);
      within = tt;
    }

pub loop-chain-preserved : goal.loop-chain-preserved
loop-chain-preserved c =
    let s = c.args.self.now in
    let es = s.entries.now in
    let cs = s.chains.now in
    let i = c.loop-chain.invariant in
    let len = s.len in
    let b = c.args.bucket in (
      next-below (bucket_at es) (next_at es) (first_at cs) (last_at cs) len b c.loop-chain.i i.0 i.1 (λ q. c.if-i-chain.false (q ∙ sym (ap (λ (x : Chain). x.last) c.in_ok-chain.ensures.1))) s.lasts s.nexts s.gaps,
      next-bucket (bucket_at es) (next_at es) (first_at cs) (last_at cs) len b c.loop-chain.i i.0 i.1 (λ q. c.if-i-chain.false (q ∙ sym (ap (λ (x : Chain). x.last) c.in_ok-chain.ensures.1))) s.lasts s.nexts s.gaps,
      λ j q. passed es b (memory_of c.args.bytes) (place_of (memory_of c.args.bytes) c.args.key.now) c.loop-chain.i i.2 c.if-same.ensures j (next-follows (bucket_at es) (next_at es) (first_at cs) (last_at cs) len b c.loop-chain.i i.0 i.1 (λ q. c.if-i-chain.false (q ∙ sym (ap (λ (x : Chain). x.last) c.in_ok-chain.ensures.1))) s.lasts s.nexts s.gaps j q.0 q.1) (q.1, q.2),
    )

pub loop-chain-smaller : goal.loop-chain-smaller
loop-chain-smaller c =
    let s = c.args.self.now in
    let es = s.entries.now in
    let cs = s.chains.now in
    let i = c.loop-chain.invariant in
    let later = next-later (bucket_at es) (next_at es) (first_at cs) (last_at cs) s.len c.args.bucket c.loop-chain.i i.0 i.1 (λ q. c.if-i-chain.false (q ∙ sym (ap (λ (x : Chain). x.last) c.in_ok-chain.ensures.1))) s.lasts s.nexts s.gaps in
    let low = i.0 in
    omega arith
