-- A walk along a chain: it meets every entry of its bucket, in order. Assumes nothing.
use Rattle.std.proofs.Common.{◌≡◌, ℕ, ◌<◌, ◌≤◌, List, length, get_or, take, Some, None, sym, ◌∙◌, subst, ⊎_elim, arith}
use Rattle.std.proofs.lemmas.List.{length-take-le, get_or-take, get_or_default}
use Rattle.std.proofs.lemmas.Bool.{cases_lt, cases_eq}
use Rattle.text.specs.First.{First}
use Rattle.buckets.specs.declared.Chained.{Chained}
use Rattle.buckets.specs.Chains.{unused, Firsts, Lasts, Nexts, Gaps}

-- the first entry of which P holds, told by places below len
module _ (P : Chained → Type 0) (es : List Chained) (len : ℕ) (fit : len ≤ length es) where
  inside : (k : ℕ) (d : Chained) → k < len → get_or (take len es) k d ≡ get_or es k unused
  inside k d h = get_or-take len es k d h ∙ get_or_default es k d unused (omega arith)

  pub first-here : (i : ℕ) → i < len → P (get_or es i unused) → ((j : ℕ) → j < i → P (get_or es j unused) → ⊥) → First P (take len es) (Some i)
  first-here i h p f = (
    omega (arith, length-take-le len es fit),
    λ d. subst P (sym (inside i d h)) p,
    λ k d q r. f k q (subst P (inside k d (omega arith)) r),
  )

  pub first-nowhere : ((j : ℕ) → j < len → P (get_or es j unused) → ⊥) → First P (take len es) None
  first-nowhere f = λ k d q r.
      let h : k < len = omega (arith, length-take-le len es fit) in
      f k h (subst P (inside k d h) r)

-- none before i and not i: none up to i
pub none-up-to : (Q : ℕ → Type 0) (i : ℕ) → ((j : ℕ) → j < i → Q j → ⊥) → (Q i → ⊥) → (j : ℕ) → j ≤ i → Q j → ⊥
none-up-to Q i before here j h q =
    ⊎_elim (λ (e : j ≡ i). here (subst Q e q)) (λ (n : j ≡ i → ⊥). before j (omega (arith, n)) q) (cases_eq j i)

module _ (bk nx fs ls : ℕ → ℕ) (len b : ℕ) where
  -- a chain that does not begin with an entry of its bucket has none
  pub chain-empty : Firsts bk fs len → (fs b < len → bk (fs b) ≡ b → ⊥) → (j : ℕ) → j < len → bk j ≡ b → ⊥
  chain-empty firsts none j h e =
      let f = firsts j h in
      let low : fs b ≤ j = subst (λ (x : ℕ). fs x ≤ j) e f.0 in
      none (omega arith) (subst (λ (x : ℕ). bk (fs x) ≡ x) e f.1)

  -- none of the bucket stands behind its last
  pub chain-over : Lasts bk ls len → (j : ℕ) → j < len → bk j ≡ b → j ≤ ls b
  chain-over lasts j h e = subst (λ (x : ℕ). j ≤ ls x) e (lasts j h).0

  module _ (i : ℕ) (h : i < len) (e : bk i ≡ b) (n : i ≡ ls b → ⊥) (lasts : Lasts bk ls len) (nexts : Nexts bk nx ls len) (gaps : Gaps bk nx len) where
    leads : (i < nx i) × (nx i ≤ ls b) × (bk (nx i) ≡ b)
    leads =
        let l = chain-over lasts i h e in
        let lt : i < ls (bk i) = subst (λ (x : ℕ). i < ls x) (sym e) (omega (arith, n)) in
        let z = nexts i (h, lt) in
        (z.0, subst (λ (x : ℕ). nx i ≤ ls x) e z.1, z.2 ∙ e)

    pub next-later : i < nx i
    next-later = leads.0

    pub next-below : nx i < len
    next-below = let z = leads.1 in let y = subst (λ (x : ℕ). ls x < len) e (lasts i h).1 in omega arith

    pub next-bucket : bk (nx i) ≡ b
    next-bucket = leads.2

    -- what stands before the next entry of the bucket stands at this one or before it
    pub next-follows : (j : ℕ) → j < nx i → bk j ≡ b → j ≤ i
    next-follows j q f = ⊎_elim
        (λ (lt : i < j). absurd (gaps i j (lt, omega (arith, next-below), q, f ∙ sym e)))
        (λ (le : j ≤ i). le)
        (cases_lt i j)
