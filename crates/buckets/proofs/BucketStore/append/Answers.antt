use Rattle.std.proofs.Common.{ℕ, ◌+◌, ◌<◌, ◌≤◌, length, get_or, set, sym, refl, ◌∙◌, subst, arith}
use Rattle.std.proofs.lemmas.List.{length-set}
use Rattle.text.specs.Memory.{memory_of}
use Rattle.store.specs.Val.{meaning}
use Rattle.store.specs.Tables.{write}
use Rattle.store.specs.Filed.{place_of}
use Rattle.buckets.specs.declared.Chained.{Chained}
use Rattle.buckets.specs.Chains.{unused}
use Rattle.buckets.specs.Stored.{Holds}
use Rattle.buckets.proofs.Chaining.{links, fit, long-set, linked-beyond}
use Rattle.buckets.proofs.Storing.{led, holds-push, inside-push}
use Rattle.buckets.proofs.Appending.{joined, led_on, linked-led, linked-joined, inside-led, holds-led, first-led}
use Rattle.buckets.proofs.BucketStore.append.Goals as goal

-- the last of the chain leads to the end
pub invariant_of-self : goal.invariant_of-self
invariant_of-self c =
    let s = c.args.self.now in
    let es = s.entries.now in
    let cs = s.chains.now in
    let b = c.bucket_of-bucket.result in
    let chain = c.unwrap_or-chain.result in
    let linked = linked-led es cs s.len b chain (fit s) (links s) (joined es cs s.len b c.chain_of.result chain c.chain_of.ensures c.unwrap_or-chain.ensures) in
    record {
      entered = long-set s.room es chain.last _ s.entered;
      filled = s.filled;
      limit = s.limit;
      numbered = s.numbered;
      firsts = linked.0;
      lasts = linked.1.0;
      nexts = linked.1.1.0;
      gaps = linked.1.1.1.0;
    }

-- the new entry stands there, and does not count yet
pub invariant_of-self-2 : goal.invariant_of-self-2
invariant_of-self-2 c =
    let s = c.args.self.now in
    let es = s.entries.now in
    let cs = s.chains.now in
    let b = c.bucket_of-bucket.result in
    let chain = c.unwrap_or-chain.result in
    let es' = led_on es chain.last s.len in
    let e : Chained = record { key = c.args.key; value = c.args.value; bucket = b; next = s.len } in
    let linked = linked-beyond es' cs s.len (linked-led es cs s.len b chain (fit s) (links s) (joined es cs s.len b c.chain_of.result chain c.chain_of.ensures c.unwrap_or-chain.ensures)) s.len e (omega arith) in
    record {
      entered = long-set s.room es' s.len e (long-set s.room es chain.last _ s.entered);
      filled = s.filled;
      limit = s.limit;
      numbered = s.numbered;
      firsts = linked.0;
      lasts = linked.1.0;
      nexts = linked.1.1.0;
      gaps = linked.1.1.1.0;
    }

-- it is the last of its chain
pub invariant_of-self-3 : goal.invariant_of-self-3
invariant_of-self-3 c =
    let s = c.args.self.now in
    let es = s.entries.now in
    let cs = s.chains.now in
    let b = c.bucket_of-bucket.result in
    let chain = c.unwrap_or-chain.result in
    let e : Chained = record { key = c.args.key; value = c.args.value; bucket = b; next = s.len } in
    let room : s.len < s.room = c.requires in
    let linked = linked-joined es cs s.len b chain (fit s) (links s) (joined es cs s.len b c.chain_of.result chain c.chain_of.ensures c.unwrap_or-chain.ensures) e (omega (arith, s.entered)) c.bucket_of-bucket.ensures.below refl in
    record {
      entered = long-set s.room (led_on es chain.last s.len) s.len e (long-set s.room es chain.last _ s.entered);
      filled = omega arith;
      limit = s.limit;
      numbered = λ h. long-set 1 cs b _ (s.numbered h);
      firsts = linked.0;
      lasts = linked.1.0;
      nexts = linked.1.1.0;
      gaps = linked.1.1.1.0;
    }

pub returns-clause-holds : goal.returns-clause-holds
returns-clause-holds c = λ T h first there.
    let s = c.args.self.now in
    let es = s.entries.now in
    let cs = s.chains.now in
    let many = length cs in
    let m = memory_of c.args.bytes in
    let k = c.args.key in
    let b = c.bucket_of-bucket.result in
    let chain = c.unwrap_or-chain.result in
    let j = joined es cs s.len b c.chain_of.result chain c.chain_of.ensures c.unwrap_or-chain.ensures in
    let es' = led_on es chain.last s.len in
    let e : Chained = record { key = k; value = c.args.value; bucket = b; next = s.len } in
    let lt : s.len < length es' = omega (arith, length-set es chain.last (led (get_or es chain.last unused) s.len), s.entered, c.requires) in
    let fit' : s.len ≤ length es' = omega arith in
    subst (λ (n : ℕ). Holds (set es' s.len e) n (s.len + 1) s.tables.made m (write T k.location.0 (meaning m k.value) (meaning m c.args.value))) (sym (length-set cs b _))
    (holds-push es' s.len fit' many s.tables.made m T (holds-led es cs s.len b chain (fit s) (links s) j many s.tables.made m T h) e
    (first ∙ first-led es cs s.len b chain (fit s) (links s) j many s.tables.made m T h (place_of m k)) lt there c.bucket_of-bucket.ensures.value)

pub returns-clause-within : goal.returns-clause-within
returns-clause-within c = λ u w p q.
    let s = c.args.self.now in
    let es = s.entries.now in
    let cs = s.chains.now in
    let b = c.bucket_of-bucket.result in
    let chain = c.unwrap_or-chain.result in
    let j = joined es cs s.len b c.chain_of.result chain c.chain_of.ensures c.unwrap_or-chain.ensures in
    let es' = led_on es chain.last s.len in
    let e : Chained = record { key = c.args.key; value = c.args.value; bucket = b; next = s.len } in
    let lt : s.len < length es' = omega (arith, length-set es chain.last (led (get_or es chain.last unused) s.len), s.entered, c.requires) in
    inside-push es' s.len (omega arith) u e lt (inside-led es cs s.len b chain (fit s) (links s) j u w) p q
