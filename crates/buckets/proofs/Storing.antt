-- What chained entries mean: the first fit of a chain is the first of all, and what a write does. Assumes nothing.
use Rattle.std.proofs.Common.{◌≡◌, ℕ, ◌+◌, ◌<◌, ◌≤◌, true, false, List, [], ◌∷◌, ◌++◌, map, length, get_or, take, set, Some, None, Option, sym, refl, ap, ◌∙◌, subst, arith}
use lib.Seq.{take-set-lt}
use Rattle.std.specs.List.{AllByRecursion}
use Rattle.std.proofs.ByRecursion.{All-weaker, All-set, All-push, All-get_or}
use Rattle.std.proofs.lemmas.List.{length-map, length-take-le, get_or-take, get_or-map, take_more_set, map-set, map_push, set-get_or}
use Rattle.std.proofs.lemmas.Bool.{lt-ltb, le-ltb}
use Rattle.text.specs.Memory.{Memory}
use Rattle.text.specs.Agree.{Grown}
use Rattle.text.specs.First.{First, first_place}
use Rattle.text.proofs.Firsts.{first_place-from-first, first_place-map}
use Rattle.store.specs.declared.key.Key.{Key}
use Rattle.store.specs.declared.value.Value.{Value}
use Rattle.store.specs.Val.{Val, meaning, end_of}
use Rattle.store.specs.Tables.{Tables, pairs, made, read, write}
use Rattle.store.specs.Filed.{Filed, place_of, same_place, fits, Files}
use Rattle.store.specs.ValuesLemmas.{meaning-grown, decides-place}
use Rattle.store.proofs.Rows.{file, file-found, file-none}
use Rattle.store.proofs.Filing.{files-none, files-length, files-pairs, files-make, files-found, files-nothing, files-file}
use Rattle.buckets.specs.declared.Chained.{Chained}
use Rattle.buckets.specs.Numbers.{bucket_of}
use Rattle.buckets.specs.Chains.{unused}
use Rattle.buckets.specs.Stored.{pair_of, InPlace, Holds, Inside}

-- the first fit in the key's bucket is the first fit of all
module _ (buckets : ℕ) (m : Memory) (p : ℕ × Val) (b : ℕ) (is : b ≡ bucket_of buckets p) (xs : List Chained) (placed : InPlace buckets m xs) where
  in-bucket : (k : ℕ) (d : Chained) → k < length xs → place_of m (get_or xs k d).key ≡ p → (get_or xs k d).bucket ≡ b
  in-bucket k d h q =
      All-get_or (λ (e : Chained). e.bucket ≡ bucket_of buckets (place_of m e.key)) xs k d h placed ∙ ap (bucket_of buckets) q ∙ sym is

  first_fits : (r : Option ℕ) → First (λ (e : Chained). (e.bucket ≡ b) × (place_of m e.key ≡ p)) xs r → First (λ (e : Chained). place_of m e.key ≡ p) xs r
  first_fits None f = λ k d h q. f k d h (in-bucket k d h q, q)
  first_fits (Some i) f = (f.0, λ d. (f.1 d).1, λ k d h q. f.2 k d h (in-bucket k d (omega (arith, f.0)) q, q))

  pub first-of-all : (r : Option ℕ) → First (λ (e : Chained). (e.bucket ≡ b) × (place_of m e.key ≡ p)) xs r → r ≡ first_place (λ (e : Chained). same_place (place_of m e.key) p) xs
  first-of-all r f = first_place-from-first (λ (e : Chained). place_of m e.key ≡ p) (λ (e : Chained). same_place (place_of m e.key) p) (λ e. decides-place (place_of m e.key) p) xs r (first_fits r f)

pub holds-nothing : (es : List Chained) (buckets : ℕ) (m : Memory) → Holds es buckets 0 0 m []
holds-nothing es buckets m = record { files = files-none; placed = tt }

pairs-grown : (u : ℕ) (l m : Memory) → Grown u l m → (xs : List Chained) → AllByRecursion (λ (e : Chained). (end_of e.key.value ≤ u) × (end_of e.value ≤ u)) xs → map (pair_of l) xs ≡ map (pair_of m) xs
pairs-grown u l m g [] a = refl
pairs-grown u l m g (e ∷ xs) a =
    let rest = pairs-grown u l m g xs a.1 in
    λ i. ((e.key.location.0, meaning-grown u l m e.key.value g a.0.0 i), meaning-grown u l m e.value g a.0.1 i) ∷ rest i

placed-grown : (buckets u : ℕ) (l m : Memory) → Grown u l m → (xs : List Chained) → AllByRecursion (λ (e : Chained). (end_of e.key.value ≤ u) × (end_of e.value ≤ u)) xs → InPlace buckets l xs → InPlace buckets m xs
placed-grown buckets u l m g [] a p = tt
placed-grown buckets u l m g (e ∷ xs) a p =
    (p.0 ∙ ap (λ (k : Val). bucket_of buckets (e.key.location.0, k)) (meaning-grown u l m e.key.value g a.0.0), placed-grown buckets u l m g xs a.1 p.1)

pub holds-grown : (es : List Chained) (buckets len n u : ℕ) (l m : Memory) (T : Tables) → Inside es len u → Grown u l m → Holds es buckets len n l T → Holds es buckets len n m T
holds-grown es buckets len n u l m T a g h = record {
  files = subst (λ (fs : List Filed). Files fs n T) (pairs-grown u l m g (take len es) a) h.files;
  placed = placed-grown buckets u l m g (take len es) a h.placed;
}

pub inside-wider : (es : List Chained) (len u v : ℕ) → u ≤ v → Inside es len u → Inside es len v
inside-wider es len u v h a =
    All-weaker (λ (e : Chained). (end_of e.key.value ≤ u) × (end_of e.value ≤ u)) (λ (e : Chained). (end_of e.key.value ≤ v) × (end_of e.value ≤ v))
    (λ e q. (let z = q.0 in omega arith, let z = q.1 in omega arith)) (take len es) a

-- an entry with another value, and one that leads to another
abbrev pub valued : Chained → Value → Chained
valued e v = record { key = e.key; value = v; bucket = e.bucket; next = e.next }

abbrev pub led : Chained → ℕ → Chained
led e n = record { key = e.key; value = e.value; bucket = e.bucket; next = n }

-- over a slice of which the first len count
module _ (es : List Chained) (len : ℕ) (fit : len ≤ length es) where
  long : length (take len es) ≡ len
  long = length-take-le len es fit

  taken : (i : ℕ) → i < len → get_or (take len es) i unused ≡ get_or es i unused
  taken i h = get_or-take len es i unused h

  inside-at : (u i : ℕ) → i < len → Inside es len u → (end_of (get_or es i unused).key.value ≤ u) × (end_of (get_or es i unused).value ≤ u)
  inside-at u i h a =
      subst (λ (e : Chained). (end_of e.key.value ≤ u) × (end_of e.value ≤ u)) (taken i h)
      (All-get_or (λ (e : Chained). (end_of e.key.value ≤ u) × (end_of e.value ≤ u)) (take len es) i unused (omega (arith, long)) a)

  pub inside-value : (u i : ℕ) → i < len → Inside es len u → end_of (get_or es i unused).value ≤ u
  inside-value u i h a = (inside-at u i h a).1

  inside-put : (u i : ℕ) (e : Chained) → i < len → Inside es len u → end_of e.key.value ≤ u → end_of e.value ≤ u → Inside (set es i e) len u
  inside-put u i e h a p q =
      let P : Chained → Type 0 = λ (x : Chained). (end_of x.key.value ≤ u) × (end_of x.value ≤ u) in
      subst (AllByRecursion P) (sym (take-set-lt len es i e h)) (All-set P (take len es) i e (p, q) a)

  pub inside-set : (u i : ℕ) (v : Value) → i < len → Inside es len u → end_of v ≤ u → Inside (set es i (valued (get_or es i unused) v)) len u
  inside-set u i v h a q = inside-put u i (valued (get_or es i unused) v) h a (inside-at u i h a).0 q

  pub inside-lead : (u i n : ℕ) → i < len → Inside es len u → Inside (set es i (led (get_or es i unused) n)) len u
  inside-lead u i n h a = inside-put u i (led (get_or es i unused) n) h a (inside-at u i h a).0 (inside-at u i h a).1

  pub inside-push : (u : ℕ) (e : Chained) → len < length es → Inside es len u → end_of e.key.value ≤ u → end_of e.value ≤ u → Inside (set es len e) (len + 1) u
  inside-push u e room a p q =
      let P : Chained → Type 0 = λ (x : Chained). (end_of x.key.value ≤ u) × (end_of x.value ≤ u) in
      subst (AllByRecursion P) (sym (take_more_set es len e room)) (All-push P (take len es) e a (p, q))

  module _ (buckets n : ℕ) (m : Memory) (T : Tables) (h : Holds es buckets len n m T) where
    pub holds-length : length T ≡ n
    holds-length = files-length (map (pair_of m) (take len es)) n T h.files

    pub holds-pairs : pairs T ≡ len
    holds-pairs = files-pairs (map (pair_of m) (take len es)) n T h.files ∙ length-map (take len es) (pair_of m) ∙ long

    pub holds-made : (l : ℕ) → l < n → made T l ≡ true
    holds-made l q = lt-ltb l (length T) (omega (arith, holds-length))

    pub holds-unmade : (l : ℕ) → n ≤ l → made T l ≡ false
    holds-unmade l q = le-ltb l (length T) (omega (arith, holds-length))

    pub holds-make : Holds es buckets len (n + 1) m (T ++ [] ∷ [])
    holds-make = record { files = files-make (map (pair_of m) (take len es)) n T h.files; placed = h.placed }

    pair-at : (i : ℕ) (d : Filed) → i < len → get_or (map (pair_of m) (take len es)) i d ≡ pair_of m (get_or es i unused)
    pair-at i d q = get_or-map (pair_of m) (take len es) i unused d (omega (arith, long)) ∙ ap (pair_of m) (taken i q)

    placed_at : (i : ℕ) → i < len → (get_or es i unused).bucket ≡ bucket_of buckets (place_of m (get_or es i unused).key)
    placed_at i q =
        subst (λ (e : Chained). e.bucket ≡ bucket_of buckets (place_of m e.key)) (taken i q)
        (All-get_or (λ (e : Chained). e.bucket ≡ bucket_of buckets (place_of m e.key)) (take len es) i unused (omega (arith, long)) h.placed)

    placed-put : (i : ℕ) (e : Chained) → i < len → e.bucket ≡ bucket_of buckets (place_of m e.key) → InPlace buckets m (take len (set es i e))
    placed-put i e q p =
        let P : Chained → Type 0 = λ (x : Chained). x.bucket ≡ bucket_of buckets (place_of m x.key) in
        subst (AllByRecursion P) (sym (take-set-lt len es i e q)) (All-set P (take len es) i e p h.placed)

    -- where an entry leads is no part of what it means
    pairs-lead : (i k : ℕ) → i < len → map (pair_of m) (take len (set es i (led (get_or es i unused) k))) ≡ map (pair_of m) (take len es)
    pairs-lead i k q =
        let e = led (get_or es i unused) k in
        let xs = take len es in
        let d = pair_of m unused in
        ap (map (pair_of m)) (take-set-lt len es i e q) ∙ map-set (pair_of m) xs i e
        ∙ ap (set (map (pair_of m) xs) i) (sym (pair-at i d q)) ∙ set-get_or (map (pair_of m) xs) i d

    pub holds-lead : (i k : ℕ) → i < len → Holds (set es i (led (get_or es i unused) k)) buckets len n m T
    holds-lead i k q = record {
      files = subst (λ (fs : List Filed). Files fs n T) (sym (pairs-lead i k q)) h.files;
      placed = placed-put i (led (get_or es i unused) k) q (placed_at i q);
    }

    pub first-lead : (i k : ℕ) (p : ℕ × Val) → i < len
        → first_place (λ (e : Chained). same_place (place_of m e.key) p) (take len es) ≡ first_place (λ (e : Chained). same_place (place_of m e.key) p) (take len (set es i (led (get_or es i unused) k)))
    first-lead i k p q =
        sym (first_place-map (pair_of m) (fits p) (take len es)) ∙ ap (first_place (fits p)) (sym (pairs-lead i k q))
        ∙ first_place-map (pair_of m) (fits p) (take len (set es i (led (get_or es i unused) k)))

    module _ (k : Key) where
      first : (r : Option ℕ) → r ≡ first_place (λ (e : Chained). same_place (place_of m e.key) (place_of m k)) (take len es) → first_place (fits (place_of m k)) (map (pair_of m) (take len es)) ≡ r
      first r e = first_place-map (pair_of m) (fits (place_of m k)) (take len es) ∙ sym e

      pub holds-found : (i : ℕ) → Some i ≡ first_place (λ (e : Chained). same_place (place_of m e.key) (place_of m k)) (take len es) → i < len
          → read T k.location.0 (meaning m k.value) ≡ Some (meaning m (get_or es i unused).value)
      holds-found i f q =
          let d = pair_of m unused in
          files-found (map (pair_of m) (take len es)) n T h.files k.location.0 (meaning m k.value) i d (first (Some i) f)
          ∙ ap (λ (x : Filed). Some x.1) (pair-at i d q)

      pub holds-none : None ≡ first_place (λ (e : Chained). same_place (place_of m e.key) (place_of m k)) (take len es) → read T k.location.0 (meaning m k.value) ≡ None
      holds-none f = files-nothing (map (pair_of m) (take len es)) n T h.files k.location.0 (meaning m k.value) (first None f)

      -- a write to a key that is there replaces its value
      pub holds-set : (i : ℕ) (v : Value) → Some i ≡ first_place (λ (e : Chained). same_place (place_of m e.key) (place_of m k)) (take len es) → i < len → k.location.0 < n
          → Holds (set es i (valued (get_or es i unused) v)) buckets len n m (write T k.location.0 (meaning m k.value) (meaning m v))
      holds-set i v f q lt =
          let e = valued (get_or es i unused) v in
          let xs = take len es in
          let d = pair_of m unused in
          let same : file (place_of m k) (meaning m v) (map (pair_of m) xs) ≡ map (pair_of m) (take len (set es i e)) =
          file-found (place_of m k) (meaning m v) (map (pair_of m) xs) i d (first (Some i) f)
          ∙ ap (λ (x : Filed). set (map (pair_of m) xs) i (x.0, meaning m v)) (pair-at i d q)
          ∙ sym (ap (map (pair_of m)) (take-set-lt len es i e q) ∙ map-set (pair_of m) xs i e)
          in
          record {
            files = subst (λ (fs : List Filed). Files fs n (write T k.location.0 (meaning m k.value) (meaning m v))) same (files-file (map (pair_of m) xs) n T h.files k.location.0 (meaning m k.value) (meaning m v) lt);
            placed = placed-put i e q (placed_at i q);
          }

    -- a new key goes behind the others
    pub holds-push : (e : Chained) → None ≡ first_place (λ (x : Chained). same_place (place_of m x.key) (place_of m e.key)) (take len es) → len < length es → e.key.location.0 < n → e.bucket ≡ bucket_of buckets (place_of m e.key)
        → Holds (set es len e) buckets (len + 1) n m (write T e.key.location.0 (meaning m e.key.value) (meaning m e.value))
    holds-push e f room lt is =
        let xs = take len es in
        let P : Chained → Type 0 = λ (x : Chained). x.bucket ≡ bucket_of buckets (place_of m x.key) in
        let same : file (place_of m e.key) (meaning m e.value) (map (pair_of m) xs) ≡ map (pair_of m) (take (len + 1) (set es len e)) =
        file-none (place_of m e.key) (meaning m e.value) (map (pair_of m) xs) (first e.key None f)
        ∙ sym (ap (map (pair_of m)) (take_more_set es len e room) ∙ map_push (pair_of m) xs e)
        in
        record {
          files = subst (λ (fs : List Filed). Files fs n (write T e.key.location.0 (meaning m e.key.value) (meaning m e.value))) same
              (files-file (map (pair_of m) xs) n T h.files e.key.location.0 (meaning m e.key.value) (meaning m e.value) lt);
          placed = subst (AllByRecursion P) (sym (take_more_set es len e room)) (All-push P xs e h.placed is);
        }
