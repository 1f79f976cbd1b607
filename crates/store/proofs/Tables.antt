-- Laws of tables: what is read after a write, how many pairs there are, and when a write is taken. Assumes nothing.
use Rattle.std.proofs.Common.{◌≡◌, ℕ, zero, suc, ◌+◌, ◌<◌, ◌≤◌, Bool, true, false, cond, ltb, [], ◌∷◌, ◌++◌, length, get_or, set, is_some, Some, None, Option, sym, refl, ap, ◌∙◌, ⊎_elim, arith}
use Rattle.std.proofs.lemmas.List.{get_or_past, get_or_push, get_or_append_left, length_push, length-set, get_or-set_same, get_or-set_other}
use Rattle.std.proofs.lemmas.Bool.{cases_eq, cases_lt, ltb-true, ltb-false, lt-ltb, both_ways}
use Rattle.store.specs.Val.{Val, equal_val}
use Rattle.store.specs.Tables.{Table, Tables, look, put, pairs, made, read, takes, write}
use Rattle.store.specs.ValuesLemmas.{decides-val}

differ : (j k : Val) → (j ≡ k → ⊥) → equal_val j k ≡ false
differ j k n = by (equal_val j k) refl where
  by : (t : Bool) → equal_val j k ≡ t → t ≡ false
  by true e = absurd (n ((decides-val j k).0 e))
  by false e = refl

-- what was written is read
pub look-put-same : (k v : Val) (ps : Table) → look k (put k v ps) ≡ Some v
unfolding look put
look-put-same k v [] = ap (λ (t : Bool). cond t (Some v) None) ((decides-val k k).1 refl)
look-put-same k v (p ∷ ps) = by (equal_val p.0 k) refl (look-put-same k v ps) where
  by : (t : Bool) → equal_val p.0 k ≡ t → look k (put k v ps) ≡ Some v → look k (cond t ((p.0, v) ∷ ps) (p ∷ put k v ps)) ≡ Some v
  by true e h = ap (λ (t : Bool). cond t (Some v) (look k ps)) e
  by false e h = ap (λ (t : Bool). cond t (Some p.1) (look k (put k v ps))) e ∙ h

-- and no other key's value changes
pub look-put-other : (j k v : Val) (ps : Table) → (j ≡ k → ⊥) → look j (put k v ps) ≡ look j ps
unfolding look put
look-put-other j k v [] n = ap (λ (t : Bool). cond t (Some v) None) (differ k j (λ e. n (sym e)))
look-put-other j k v (p ∷ ps) n = by (equal_val p.0 k) refl (look-put-other j k v ps n) where
  by : (t : Bool) → equal_val p.0 k ≡ t → look j (put k v ps) ≡ look j ps → look j (cond t ((p.0, v) ∷ ps) (p ∷ put k v ps)) ≡ cond (equal_val p.0 j) (Some p.1) (look j ps)
  by true e h =
      let no : equal_val p.0 j ≡ false = differ p.0 j (λ q. n (sym q ∙ (decides-val p.0 k).0 e)) in
      ap (λ (t : Bool). cond t (Some v) (look j ps)) no ∙ sym (ap (λ (t : Bool). cond t (Some p.1) (look j ps)) no)
  by false e h = ap (cond (equal_val p.0 j) (Some p.1)) h

-- a new key goes to the end
pub put-new : (k v : Val) (ps : Table) → look k ps ≡ None → put k v ps ≡ ps ++ (k, v) ∷ []
unfolding look put
put-new k v [] h = refl
put-new k v (p ∷ ps) h = by (equal_val p.0 k) (put-new k v ps) h where
  by : (t : Bool) → (look k ps ≡ None → put k v ps ≡ ps ++ (k, v) ∷ []) → cond t (Some p.1) (look k ps) ≡ None → cond t ((p.0, v) ∷ ps) (p ∷ put k v ps) ≡ p ∷ (ps ++ (k, v) ∷ [])
  by true f q = let z : ◌≡◌ {A = ℕ} 0 1 = cc in absurd (omega arith)
  by false f q = ap (λ (r : Table). p ∷ r) (f q)

-- a present one takes no pair more
pub length-put-present : (k v : Val) (ps : Table) → is_some (look k ps) ≡ true → length (put k v ps) ≡ length ps
unfolding look put
length-put-present k v [] h = absurd (both_ways _ refl h)
length-put-present k v (p ∷ ps) h = by (equal_val p.0 k) (length-put-present k v ps) h where
  by : (t : Bool) → (is_some (look k ps) ≡ true → length (put k v ps) ≡ length ps) → is_some (cond t (Some p.1) (look k ps)) ≡ true → length (cond t ((p.0, v) ∷ ps) (p ∷ put k v ps)) ≡ length (p ∷ ps)
  by true f q = refl
  by false f q = ap suc (f q)

pub length-put-new : (k v : Val) (ps : Table) → look k ps ≡ None → length (put k v ps) ≡ length ps + 1
length-put-new k v ps h = ap length (put-new k v ps h) ∙ length_push ps (k, v)

-- one table in place of another
pub pairs_set : (T : Tables) (l : ℕ) (t : Table) → l < length T → pairs (set T l t) + length (get_or T l []) ≡ pairs T + length t
unfolding pairs
pairs_set [] l t h = absurd (omega arith)
pairs_set (x ∷ T) zero t h = omega arith
pairs_set (x ∷ T) (suc l) t h = let e = pairs_set T l t (omega arith) in omega arith

pub pairs-make : (T : Tables) → pairs (T ++ [] ∷ []) ≡ pairs T
unfolding pairs
pairs-make [] = refl
pairs-make (t ∷ T) = ap (λ (n : ℕ). length t + n) (pairs-make T)

-- a table just made is the last, and empty
pub length-make : (T : Tables) → length (T ++ [] ∷ []) ≡ length T + 1
length-make T = length_push T []

pub made-last : (T : Tables) → made (T ++ [] ∷ []) (length T) ≡ true
made-last T = lt-ltb (length T) (length (T ++ [] ∷ [])) (omega (arith, length-make T))

pub made-still : (T : Tables) (l : ℕ) → made T l ≡ true → made (T ++ [] ∷ []) l ≡ true
made-still T l h = lt-ltb l (length (T ++ [] ∷ [])) (omega (arith, length-make T, ltb-true l (length T) h))

get_or-make : (T : Tables) (l : ℕ) → get_or (T ++ [] ∷ []) l [] ≡ get_or T l []
get_or-make T l =
    ⊎_elim (λ (h : l < length T). get_or_append_left T ([] ∷ []) [] l h)
    (λ (h : length T ≤ l). ⊎_elim
    (λ (e : l ≡ length T). get_or_push T [] [] l (sym e) ∙ sym (get_or_past T l [] h))
    (λ (n : l ≡ length T → ⊥). get_or_past (T ++ [] ∷ []) l [] (omega (arith, length-make T, n)) ∙ sym (get_or_past T l [] h))
    (cases_eq l (length T)))
    (cases_lt l (length T))

-- making a table changes no other
pub read-make : (T : Tables) (l : ℕ) (k : Val) → read (T ++ [] ∷ []) l k ≡ read T l k
read-make T l k = ap (look k) (get_or-make T l)

-- a location never made has no key
pub read-unmade : (T : Tables) (l : ℕ) (k : Val) → made T l ≡ false → read T l k ≡ None
unfolding look
read-unmade T l k h = ap (look k) (get_or_past T l [] (ltb-false l (length T) h))

module _ (T : Tables) (l : ℕ) (k v : Val) where
  pub length-write : length (write T l k v) ≡ length T
  length-write = length-set T l (put k v (get_or T l []))

  pub made-write : (j : ℕ) → made (write T l k v) j ≡ made T j
  made-write j = ap (ltb j) length-write

  -- what was written last under a key is what is read
  pub read-write-same : made T l ≡ true → read (write T l k v) l k ≡ Some v
  read-write-same h = ap (look k) (get_or-set_same T l (put k v (get_or T l [])) [] (ltb-true l (length T) h)) ∙ look-put-same k v (get_or T l [])

  -- other keys of the table keep theirs
  pub read-write-other-key : (j : Val) → (j ≡ k → ⊥) → read (write T l k v) l j ≡ read T l j
  read-write-other-key j n = ⊎_elim
      (λ (h : l < length T). ap (look j) (get_or-set_same T l (put k v (get_or T l [])) [] h) ∙ look-put-other j k v (get_or T l []) n)
      (λ (h : length T ≤ l). ap (look j) (get_or_past (write T l k v) l [] (omega (arith, length-write)) ∙ sym (get_or_past T l [] h)))
      (cases_lt l (length T))

  -- and so do other tables
  pub read-write-other-table : (i : ℕ) (j : Val) → (i ≡ l → ⊥) → read (write T l k v) i j ≡ read T i j
  read-write-other-table i j n = ap (look j) (get_or-set_other T l i (put k v (get_or T l [])) [] n)

  -- both at once, by the test of keys
  pub read-write : (j : Val) → made T l ≡ true → read (write T l k v) l j ≡ cond (equal_val j k) (Some v) (read T l j)
  read-write j h = by (equal_val j k) refl where
    by : (t : Bool) → equal_val j k ≡ t → read (write T l k v) l j ≡ cond t (Some v) (read T l j)
    by true e = ap (read (write T l k v) l) ((decides-val j k).0 e) ∙ read-write-same h
    by false e = read-write-other-key j (λ q. both_ways _ e ((decides-val j k).1 q))

  pub pairs-write-present : is_some (read T l k) ≡ true → pairs (write T l k v) ≡ pairs T
  unfolding look
  pairs-write-present h = ⊎_elim
      (λ (g : l < length T). omega (arith, pairs_set T l (put k v (get_or T l [])) g, length-put-present k v (get_or T l []) h))
      (λ (g : length T ≤ l). absurd (both_ways _ (ap (λ (t : Table). is_some (look k t)) (get_or_past T l [] g)) h))
      (cases_lt l (length T))

  pub pairs-write-new : made T l ≡ true → read T l k ≡ None → pairs (write T l k v) ≡ pairs T + 1
  pairs-write-new h n = omega (arith, pairs_set T l (put k v (get_or T l [])) (ltb-true l (length T) h), length-put-new k v (get_or T l []) n)

-- when a write is taken
module _ (m : ℕ) (T : Tables) (l : ℕ) (k : Val) where
  pub takes-unmade : made T l ≡ false → takes m T l k ≡ false
  takes-unmade h = ap (λ (t : Bool). cond t (cond (is_some (read T l k)) true (ltb (pairs T) m)) false) h

  takes-made : made T l ≡ true → takes m T l k ≡ cond (is_some (read T l k)) true (ltb (pairs T) m)
  takes-made h = ap (λ (t : Bool). cond t (cond (is_some (read T l k)) true (ltb (pairs T) m)) false) h

  pub takes-present : made T l ≡ true → is_some (read T l k) ≡ true → takes m T l k ≡ true
  takes-present h p = takes-made h ∙ ap (λ (t : Bool). cond t true (ltb (pairs T) m)) p

  pub takes-new : made T l ≡ true → read T l k ≡ None → takes m T l k ≡ ltb (pairs T) m
  takes-new h n = takes-made h ∙ ap (λ (o : Option Val). cond (is_some o) true (ltb (pairs T) m)) n

  pub made-from-takes : takes m T l k ≡ true → made T l ≡ true
  made-from-takes h = by (made T l) refl where
    by : (t : Bool) → made T l ≡ t → t ≡ true
    by true e = refl
    by false e = absurd (both_ways _ (takes-unmade e) h)

  -- a refusal is for want of a table or of a pair
  pub full-from-refusal : made T l ≡ true → takes m T l k ≡ false → (read T l k ≡ None) × (m ≤ pairs T)
  full-from-refusal h f = by (read T l k) refl where
    by : (o : Option Val) → read T l k ≡ o → (o ≡ None) × (m ≤ pairs T)
    by None e = (refl, ltb-false (pairs T) m (sym (takes-new h e) ∙ f))
    by (Some w) e = absurd (both_ways _ f (takes-present h (ap is_some e)))

  -- what is taken never outnumbers the capacity
  pub pairs-write-within : (v : Val) → takes m T l k ≡ true → pairs T ≤ m → pairs (write T l k v) ≤ m
  pairs-write-within v h b = by (read T l k) refl where
    by : (o : Option Val) → read T l k ≡ o → pairs (write T l k v) ≤ m
    by None e =
        let room : pairs T < m = ltb-true (pairs T) m (sym (takes-new (made-from-takes h) e) ∙ h) in
        omega (arith, pairs-write-new T l k v (made-from-takes h) e)
    by (Some w) e = omega (arith, pairs-write-present T l k v (ap is_some e))
