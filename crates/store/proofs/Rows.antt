-- The tables of a list of pairs: what is read of them, and what a write does to them. Assumes nothing.
use Rattle.std.proofs.Common.{◌≡◌, ℕ, suc, ◌+◌, Bool, true, false, cond, ◌&&◌, eqb, List, [], ◌∷◌, ◌++◌, get_or, set, Some, None, Option, sym, refl, ap, ◌∙◌, arith}
use Rattle.std.proofs.lemmas.Bool.{eq-eqb, ne_eqb, eqb-true}
use Rattle.text.specs.First.{later, first_place}
use Rattle.store.specs.Val.{Val, equal_val}
use Rattle.store.specs.Tables.{Table, look, put}
use Rattle.store.specs.Filed.{Filed, same_place, fits, row_of}

-- what a write does to the pairs: the first that fits takes the value, else a new one comes last
unfoldable pub file : ℕ × Val → Val → List ((ℕ × Val) × Val) → List ((ℕ × Val) × Val)
file p v [] = (p, v) ∷ []
file p v (e ∷ es) = cond (fits p e) ((e.0, v) ∷ es) (e ∷ file p v es)

module _ (p : ℕ × Val) where
  -- a read, pair by pair
  unfoldable pub seek : List ((ℕ × Val) × Val) → Option Val
  seek [] = None
  seek (e ∷ es) = cond (fits p e) (Some e.1) (seek es)

  pub seek_found : (es : List Filed) (i : ℕ) (d : Filed) → first_place (fits p) es ≡ Some i → seek es ≡ Some (get_or es i d).1
  unfolding first_place seek
  seek_found [] i d h = let z : ◌≡◌ {A = ℕ} 0 1 = cc in absurd (omega arith)
  seek_found (e ∷ es) i d h = by (fits p e) (first_place (fits p) es) (λ j. seek_found es j d) h where
    by : (t : Bool) (r : Option ℕ) → ((j : ℕ) → r ≡ Some j → seek es ≡ Some (get_or es j d).1) → cond t (Some 0) (later r) ≡ Some i → cond t (Some e.1) (seek es) ≡ Some (get_or (e ∷ es) i d).1
    by true r f q = let z : 0 ≡ i = cc in ap (λ (n : ℕ). Some (get_or (e ∷ es) n d).1) z
    by false None f q = let z : ◌≡◌ {A = ℕ} 0 1 = cc in absurd (omega arith)
    by false (Some j) f q =
        let z : j + 1 ≡ i = cc in
        let y : suc j ≡ i = omega arith in
        f j refl ∙ ap (λ (n : ℕ). Some (get_or (e ∷ es) n d).1) y

  pub seek-none : (es : List Filed) → first_place (fits p) es ≡ None → seek es ≡ None
  unfolding first_place seek
  seek-none [] h = refl
  seek-none (e ∷ es) h = by (fits p e) (first_place (fits p) es) (seek-none es) h where
    by : (t : Bool) (r : Option ℕ) → (r ≡ None → seek es ≡ None) → cond t (Some 0) (later r) ≡ None → cond t (Some e.1) (seek es) ≡ None
    by true r f q = let z : ◌≡◌ {A = ℕ} 0 1 = cc in absurd (omega arith)
    by false None f q = f refl
    by false (Some j) f q = let z : ◌≡◌ {A = ℕ} 0 1 = cc in absurd (omega arith)

  pub file-found : (v : Val) (es : List Filed) (i : ℕ) (d : Filed) → first_place (fits p) es ≡ Some i → file p v es ≡ set es i ((get_or es i d).0, v)
  unfolding first_place file
  file-found v [] i d h = let z : ◌≡◌ {A = ℕ} 0 1 = cc in absurd (omega arith)
  file-found v (e ∷ es) i d h = by (fits p e) (first_place (fits p) es) (λ j. file-found v es j d) h where
    by : (t : Bool) (r : Option ℕ) → ((j : ℕ) → r ≡ Some j → file p v es ≡ set es j ((get_or es j d).0, v)) → cond t (Some 0) (later r) ≡ Some i
        → cond t ((e.0, v) ∷ es) (e ∷ file p v es) ≡ set (e ∷ es) i ((get_or (e ∷ es) i d).0, v)
    by true r f q = let z : 0 ≡ i = cc in ap (λ (n : ℕ). set (e ∷ es) n ((get_or (e ∷ es) n d).0, v)) z
    by false None f q = let z : ◌≡◌ {A = ℕ} 0 1 = cc in absurd (omega arith)
    by false (Some j) f q =
        let z : j + 1 ≡ i = cc in
        let y : suc j ≡ i = omega arith in
        ap (λ (es' : List Filed). e ∷ es') (f j refl) ∙ ap (λ (n : ℕ). set (e ∷ es) n ((get_or (e ∷ es) n d).0, v)) y

  pub file-none : (v : Val) (es : List Filed) → first_place (fits p) es ≡ None → file p v es ≡ es ++ (p, v) ∷ []
  unfolding first_place file
  file-none v [] h = refl
  file-none v (e ∷ es) h = by (fits p e) (first_place (fits p) es) (file-none v es) h where
    by : (t : Bool) (r : Option ℕ) → (r ≡ None → file p v es ≡ es ++ (p, v) ∷ []) → cond t (Some 0) (later r) ≡ None → cond t ((e.0, v) ∷ es) (e ∷ file p v es) ≡ e ∷ (es ++ (p, v) ∷ [])
    by true r f q = let z : ◌≡◌ {A = ℕ} 0 1 = cc in absurd (omega arith)
    by false None f q = ap (λ (es' : List Filed). e ∷ es') (f refl)
    by false (Some j) f q = let z : ◌≡◌ {A = ℕ} 0 1 = cc in absurd (omega arith)

module _ (l : ℕ) (k : Val) where
  -- one pair before a row
  look-cond : (t : Bool) (q : Val × Val) (r : Table) (o : Option Val) → look k r ≡ o → look k (cond t (q ∷ r) r) ≡ cond (t && equal_val q.0 k) (Some q.1) o
  unfolding look
  look-cond true q r o h = ap (cond (equal_val q.0 k) (Some q.1)) h
  look-cond false q r o h = h

  -- the table's key is the first pair of that table and key
  pub look-row : (es : List Filed) → look k (row_of es l) ≡ seek (l, k) es
  unfolding row_of seek same_place look
  look-row [] = refl
  look-row (e ∷ es) = look-cond (eqb e.0.0 l) (e.0.1, e.1) (row_of es l) (seek (l, k) es) (look-row es)

  module _ (v : Val) where
    -- a write to a table is a write to its row
    pub row-file : (es : List Filed) → row_of (file (l, k) v es) l ≡ put k v (row_of es l)
    unfolding row_of file same_place put
    row-file [] = ap (λ (t : Bool). cond t ((k, v) ∷ []) []) (eq-eqb l l refl)
    row-file (e ∷ es) = by (eqb e.0.0 l) (equal_val e.0.1 k) refl refl (row-file es) where
      by : (s t : Bool) → eqb e.0.0 l ≡ s → equal_val e.0.1 k ≡ t → row_of (file (l, k) v es) l ≡ put k v (row_of es l)
          → row_of (cond (s && t) ((e.0, v) ∷ es) (e ∷ file (l, k) v es)) l ≡ put k v (cond s ((e.0.1, e.1) ∷ row_of es l) (row_of es l))
      by true true f g h =
          ap (λ (b : Bool). cond b ((e.0.1, v) ∷ row_of es l) (row_of es l)) f
          ∙ sym (ap (λ (b : Bool). cond b ((e.0.1, v) ∷ row_of es l) ((e.0.1, e.1) ∷ put k v (row_of es l))) g)
      by true false f g h =
          ap (λ (b : Bool). cond b ((e.0.1, e.1) ∷ row_of (file (l, k) v es) l) (row_of (file (l, k) v es) l)) f
          ∙ ap (λ (r : Table). (e.0.1, e.1) ∷ r) h
          ∙ sym (ap (λ (b : Bool). cond b ((e.0.1, v) ∷ row_of es l) ((e.0.1, e.1) ∷ put k v (row_of es l))) g)
      by false t f g h = ap (λ (b : Bool). cond b ((e.0.1, e.1) ∷ row_of (file (l, k) v es) l) (row_of (file (l, k) v es) l)) f ∙ h

    -- and leaves the other tables
    pub row-file-other : (j : ℕ) → (j ≡ l → ⊥) → (es : List Filed) → row_of (file (l, k) v es) j ≡ row_of es j
    unfolding row_of file same_place
    row-file-other j n [] = ap (λ (t : Bool). cond t ((k, v) ∷ []) []) (ne_eqb l j (λ q. n (sym q)))
    row-file-other j n (e ∷ es) = by (eqb e.0.0 l) (equal_val e.0.1 k) refl (row-file-other j n es) where
      by : (s t : Bool) → eqb e.0.0 l ≡ s → row_of (file (l, k) v es) j ≡ row_of es j
          → row_of (cond (s && t) ((e.0, v) ∷ es) (e ∷ file (l, k) v es)) j ≡ cond (eqb e.0.0 j) ((e.0.1, e.1) ∷ row_of es j) (row_of es j)
      by true true f h =
          let no : eqb e.0.0 j ≡ false = ne_eqb e.0.0 j (λ q. n (sym q ∙ eqb-true e.0.0 l f)) in
          ap (λ (b : Bool). cond b ((e.0.1, v) ∷ row_of es j) (row_of es j)) no ∙ sym (ap (λ (b : Bool). cond b ((e.0.1, e.1) ∷ row_of es j) (row_of es j)) no)
      by true false f h = ap (λ (r : Table). cond (eqb e.0.0 j) ((e.0.1, e.1) ∷ r) r) h
      by false t f h = ap (λ (r : Table). cond (eqb e.0.0 j) ((e.0.1, e.1) ∷ r) r) h
