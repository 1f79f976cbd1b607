-- Chains of entries: each bucket has its first and its last entry, and each entry but the last leads to the next. Assumes nothing.
-- Only the first len entries count, so a bucket without an entry may have any ends, and a last entry any next.
use Rattle.std.specs.Prelude.{◌≡◌, ℕ, ◌<◌, ◌≤◌, List, pos, slice_index_or}
use Rattle.store.specs.declared.value.Value.TheVariants.{Int}
use Rattle.buckets.specs.declared.Chained.{Chained}
use Rattle.buckets.specs.declared.Chain.{Chain}

abbrev pub unused : Chained
unused = record { key = record { location = record { 0 = 0 }; value = Int (pos 0) }; value = Int (pos 0); bucket = 0; next = 0 }

abbrev pub unlinked : Chain
unlinked = record { first = 0; last = 0 }

abbrev pub bucket_at : List Chained → ℕ → ℕ
bucket_at es i = (slice_index_or es i unused).bucket

abbrev pub next_at : List Chained → ℕ → ℕ
next_at es i = (slice_index_or es i unused).next

abbrev pub first_at : List Chain → ℕ → ℕ
first_at cs b = (slice_index_or cs b unlinked).first

abbrev pub last_at : List Chain → ℕ → ℕ
last_at cs b = (slice_index_or cs b unlinked).last

-- the bucket's chain begins with an entry of the bucket
abbrev pub Begun : List Chained → List Chain → ℕ → ℕ → Type 0
Begun es cs len b = (first_at cs b < len) × (bucket_at es (first_at cs b) ≡ b)

-- Below, bk and nx give an entry's bucket and next, fs and ls a bucket's first and last.
-- an entry's chain begins with an entry of its bucket, at the entry or before it
abbrev pub Firsts : (ℕ → ℕ) → (ℕ → ℕ) → ℕ → Type 0
Firsts bk fs len = (i : ℕ) → i < len → (fs (bk i) ≤ i) × (bk (fs (bk i)) ≡ bk i)

-- and ends with one, at the entry or behind it
abbrev pub Lasts : (ℕ → ℕ) → (ℕ → ℕ) → ℕ → Type 0
Lasts bk ls len = (i : ℕ) → i < len → (i ≤ ls (bk i)) × (ls (bk i) < len) × (bk (ls (bk i)) ≡ bk i)

-- an entry before the last leads to a later one of its bucket
abbrev pub Nexts : (ℕ → ℕ) → (ℕ → ℕ) → (ℕ → ℕ) → ℕ → Type 0
Nexts bk nx ls len = (i : ℕ) → (i < len) × (i < ls (bk i)) → (i < nx i) × (nx i ≤ ls (bk i)) × (bk (nx i) ≡ bk i)

-- and none of its bucket stands between
abbrev pub Gaps : (ℕ → ℕ) → (ℕ → ℕ) → ℕ → Type 0
Gaps bk nx len = (i j : ℕ) → (i < j) × (j < len) × (j < nx i) × (bk j ≡ bk i) → ⊥
