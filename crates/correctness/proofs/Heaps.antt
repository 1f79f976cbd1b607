-- Heaps stay sound as objects are made and written. Assumes nothing.
use Rattle.std.proofs.Common.{◌≡◌, ℕ, zero, suc, ◌+◌, ◌-◌, ◌<◌, ◌≤◌, Bool, true, false, cond, List, [], ◌∷◌, ◌++◌, length, get_or, Some, codes, sym, refl, ap, ◌∙◌, subst, ⊎_elim, arith}
use Rattle.std.specs.List.{AllByRecursion}
use Rattle.std.specs.Str.{bytes_eq}
use Rattle.std.proofs.ByRecursion.{All-weaker}
use Rattle.std.proofs.lemmas.Slice.Eq.{bytes_eq-Decides}
use Rattle.std.proofs.lemmas.List.{length-append, length-set, get_or_at, get_or_append_left, get_or-append-add, get_or-append_right, get_or-set_same, get_or-set_other, set_past}
use Rattle.std.proofs.lemmas.Bool.{cases_eq, cases_lt, both_ways}
use Rattle.store.specs.Val.{Val, equal_val}
use Rattle.store.specs.Tables as store
use Rattle.store.specs.Tables.{Table, look, put}
use Rattle.rube.specs.Classes.{Classes, known, class_count}
use Rattle.rube.specs.Heap.{Cell, Heap, no_cell, first_heap, cell_class, cell_table, with_table, class_of, fields_of, put_at}
use Rattle.rube.specs.Meaning.{cells_of}
use Rattle.compiler.specs.Layout.{contents_key}
use Rattle.correctness.specs.Fitting.{FieldName}
use Rattle.correctness.proofs.Relation.{tables_of, Fine, integer, text, object, FineField, FineCell, a_map, an_object, its_contents, Plain, FineHeap, Backed, Sound, Self, self, Grows}
use Rattle.correctness.proofs.Tabled.{object-here, new-object, cells-object, read-contents}

-- contents stay contents
pub record KeepsContents (H H' : Heap) : Type 0 where
  pub contents : (l : ℕ) (t : Table) → l < length H → get_or H l no_cell ≡ Cell.contents t → (u : Table) × (get_or H' l no_cell ≡ Cell.contents u)

-- a value under a key of a table of such values
pub look-all : (Q : Val → Type 0) (t : Table) (k v : Val) → AllByRecursion (λ p. Q p.1) t → look k t ≡ Some v → Q v
unfolding look
look-all Q [] k v a e = let z : ◌≡◌ {A = ℕ} 0 1 = cc in absurd (omega arith)
look-all Q (p ∷ t) k v a e = by (equal_val p.0 k) (look-all Q t k v a.1) e where
  by : (b : Bool) → (look k t ≡ Some v → Q v) → cond b (Some p.1) (look k t) ≡ Some v → Q v
  by true f g = let z : p.1 ≡ v = cc in subst Q z a.0
  by false f g = f g

-- what holds of each pair holds after a write of one more
pub put_all : (R : Val × Val → Type 0) (t : Table) (k v : Val) → ((p : Val × Val) → R p → R (p.0, v)) → AllByRecursion R t → R (k, v) → AllByRecursion R (put k v t)
unfolding put
put_all R [] k v f a r = (r, tt)
put_all R (p ∷ t) k v f a r = by (equal_val p.0 k) (put_all R t k v f a.1 r) where
  by : (b : Bool) → AllByRecursion R (put k v t) → AllByRecursion R (cond b ((p.0, v) ∷ t) (p ∷ put k v t))
  by true h = (f p a.0, a.1)
  by false h = (a.0, h)

with-same : (x : Cell) → with_table (cell_table x) x ≡ x
with-same (Cell.object C fs) = refl
with-same (Cell.contents t) = refl

-- after a write each cell is what it was, with some table
pub put-shape : (H : Heap) (l : ℕ) (k v : Val) (j : ℕ) → (t : Table) × (get_or (put_at H l k v) j no_cell ≡ with_table t (get_or H j no_cell))
put-shape H l k v j =
    ⊎_elim
    (λ (e : j ≡ l). ⊎_elim
    (λ (b : l < length H). (put k v (fields_of H l), rw e (get_or-set_same H l (with_table (put k v (fields_of H l)) (get_or H l no_cell)) no_cell b)))
    (λ (b : length H ≤ l). (fields_of H j, ap (λ (K : Heap). get_or K j no_cell) (set_past H l (with_table (put k v (fields_of H l)) (get_or H l no_cell)) b) ∙ sym (with-same (get_or H j no_cell))))
    (cases_lt l (length H)))
    (λ (n : j ≡ l → ⊥). (fields_of H j, get_or-set_other H l j (with_table (put k v (fields_of H l)) (get_or H l no_cell)) no_cell n ∙ sym (with-same (get_or H j no_cell))))
    (cases_eq j l)

-- a write makes no cell
pub length-put_at : (H : Heap) (l : ℕ) (k v : Val) → length (put_at H l k v) ≡ length H
length-put_at H l k v = length-set H l (with_table (put k v (fields_of H l)) (get_or H l no_cell))

-- an object that was written was an object before
pub object-before : (H : Heap) (l : ℕ) (k v : Val) (j : ℕ) (C : List ℕ) (gs : Table) → get_or (put_at H l k v) j no_cell ≡ Cell.object C gs → (fs : Table) × (get_or H j no_cell ≡ Cell.object C fs)
object-before H l k v j C gs e = let s = put-shape H l k v j in by s.0 (get_or H j no_cell) (sym s.1 ∙ e) where
  by : (t : Table) (x : Cell) → with_table t x ≡ Cell.object C gs → (fs : Table) × (x ≡ Cell.object C fs)
  by t (Cell.object D fs) g = (fs, cc)
  by t (Cell.contents u) g = let z : ◌≡◌ {A = ℕ} 0 1 = cc in absurd (omega arith)

-- a write keeps contents
pub keeps-put : (H : Heap) (l : ℕ) (k v : Val) → KeepsContents H (put_at H l k v)
keeps-put H l k v = record { contents = λ j t b e. let s = put-shape H l k v j in (s.0, s.1 ∙ ap (with_table s.0) e) }

-- and so do new cells
pub keeps-more : (H R : Heap) → KeepsContents H (H ++ R)
keeps-more H R = record { contents = λ l t b e. (t, get_or_append_left H R no_cell l b ∙ e) }

module _ {A : Type 0} (P : Classes A) where
  -- objects stay what they are
  pub grows_same : (H : Heap) → Grows P H H
  grows_same H = record { objects = λ l C fs e. (fs, e) }

  -- and one growth after another is one
  pub grows_then : {H H' H'' : Heap} → Grows P H H' → Grows P H' H'' → Grows P H H''
  grows_then g g' = record { objects = λ l C fs e. let x = g.objects l C fs e in g'.objects l C x.0 x.1 }

  -- they do through a write
  pub grows-put : (H : Heap) (l : ℕ) (k v : Val) → Grows P H (put_at H l k v)
  grows-put H l k v = record { objects = λ j C fs e. let s = put-shape H l k v j in (s.0, s.1 ∙ ap (with_table s.0) e) }

  -- and as cells are made
  pub grows-more : (H R : Heap) → Grows P H (H ++ R)
  grows-more H R = record { objects = λ l C fs e. (fs, get_or_append_left H R no_cell l (object-here H l e) ∙ e) }

  -- values stay values
  pub fine-grows : {H H' : Heap} {v : Val} → Grows P H H' → Fine P H v → Fine P H' v
  fine-grows g integer = integer
  fine-grows g text = text
  fine-grows g (object {l = l} {C = C} {fs = fs} e k) = object (g.objects l C fs e).1 k

  -- and receivers receivers
  pub self-grows : {H H' : Heap} {v : Val} → Grows P H H' → Self P H v → Self P H' v
  self-grows g (self {l = l} {C = C} {fs = fs} e m k) = self (g.objects l C fs e).1 m k

  field-grows : {H H' : Heap} (p : Val × Val) → Grows P H H' → FineField P H p → FineField P H' p
  field-grows (Val.int n, v) g h = h
  field-grows (Val.string x, v) g h = (h.0, fine-grows g h.1)
  field-grows (Val.identifier i, v) g h = h
  field-grows (Val.location l, v) g h = h

  -- the class of a value is known
  pub class-known : {H : Heap} {v : Val} → Fine P H v → known P (class_of H v) ≡ true
  class-known integer = refl
  class-known text = refl
  class-known (object {l = l} e k) = ap (λ (x : Cell). known P (cell_class x)) e ∙ k

  -- a cell is fine in a heap that grew
  cell-grows : {H H' : Heap} (l : ℕ) {x : Cell} → Backed H → Grows P H H' → KeepsContents H H' → get_or H l no_cell ≡ x → FineCell P H l x → FineCell P H' l x
  cell-grows l b g c e (a_map {t = t} h) = a_map (c.contents (suc l) t (b.behind l _ e) h).1
  cell-grows l b g c e (an_object {fs = fs} m k a) = an_object m k (All-weaker _ _ (λ p. field-grows p g) fs a)
  cell-grows l b g c e (its_contents {t = t} a) = its_contents (All-weaker _ _ (λ p h. (fine-grows g h.0, fine-grows g h.1)) t a)

  -- the cells of a heap are fine in one that grew from it
  cells-grow : {H H' : Heap} → Sound P H → Grows P H H' → KeepsContents H H' → (l : ℕ) → l < length H → FineCell P H' l (get_or H l no_cell)
  cells-grow h g c l b = cell-grows l h.backed g c refl (h.fine.cells l b)

  parts : {H : Heap} {l : ℕ} {x : Cell} {C : List ℕ} {fs : Table} → FineCell P H l x → x ≡ Cell.object C fs → bytes_eq C (codes "Map") ≡ false → (known P C ≡ true) × AllByRecursion (FineField P H) fs × Plain C
  parts {C = C} (a_map h) e m =
      let z : codes "Map" ≡ C = cc in
      absurd (both_ways _ m (ap (λ (D : List ℕ). bytes_eq D (codes "Map")) (sym z)))
  parts {H} {C = C} {fs = gs} (an_object {C = D} {fs = fs} m k a) e n =
      let z : D ≡ C = cc in
      let y : fs ≡ gs = cc in
      (subst (λ (B : List ℕ). known P B ≡ true) z k, subst (AllByRecursion (FineField P H)) y a, subst Plain z m)
  parts (its_contents a) e m = let z : ◌≡◌ {A = ℕ} 0 1 = cc in absurd (omega arith)

  -- an object that is no Map has a known class, and fields
  pub object-parts : {H : Heap} (l : ℕ) {C : List ℕ} {fs : Table} → FineHeap P H → get_or H l no_cell ≡ Cell.object C fs → bytes_eq C (codes "Map") ≡ false → (known P C ≡ true) × AllByRecursion (FineField P H) fs × Plain C
  object-parts {H} l h e m = parts (h.cells l (object-here H l e)) e m

  -- what a Map has
  pub record MapParts (H : Heap) (l : ℕ) (fs : Table) : Type 0 where
    pub place : fs ≡ (contents_key, Val.location (suc l)) ∷ []
    pub table : Table
    pub contents : get_or H (suc l) no_cell ≡ Cell.contents table

  map_of : {H : Heap} {l : ℕ} {x : Cell} {fs : Table} → FineCell P H l x → x ≡ Cell.object (codes "Map") fs → MapParts H l fs
  map_of {l = l} {fs = fs} (a_map {t = t} h) e = record { place = cc; table = t; contents = h }
  map_of (an_object {C = D} m k a) e =
      let z : D ≡ codes "Map" = cc in
      absurd (both_ways _ m.0 (ap (λ (B : List ℕ). bytes_eq B (codes "Map")) z))
  map_of (its_contents a) e = let z : ◌≡◌ {A = ℕ} 0 1 = cc in absurd (omega arith)

  -- a Map has its contents behind it
  pub map-parts : {H : Heap} (l : ℕ) {fs : Table} → FineHeap P H → get_or H l no_cell ≡ Cell.object (codes "Map") fs → MapParts H l fs
  map-parts {H} l h e = map_of (h.cells l (object-here H l e)) e

  -- so its table says where its contents are
  pub read-map : {H : Heap} (l : ℕ) {fs : Table} → FineHeap P H → get_or H l no_cell ≡ Cell.object (codes "Map") fs → store.read (tables_of P H) (class_count P + l) contents_key ≡ Some (Val.location (class_count P + suc l))
  read-map {H} l h e = read-contents P H l (e ∙ ap (Cell.object (codes "Map")) (map-parts l h e).place)

  keys_of : {H : Heap} {l : ℕ} {x : Cell} {t : Table} → FineCell P H l x → x ≡ Cell.contents t → AllByRecursion (λ p. Fine P H p.0 × Fine P H p.1) t
  keys_of (a_map h) e = let z : ◌≡◌ {A = ℕ} 0 1 = cc in absurd (omega arith)
  keys_of (an_object m k a) e = let z : ◌≡◌ {A = ℕ} 0 1 = cc in absurd (omega arith)
  keys_of {H} {t = u} (its_contents {t = t} a) e = let z : t ≡ u = cc in subst (AllByRecursion (λ p. Fine P H p.0 × Fine P H p.1)) z a

  -- contents have keys and values that are fine
  pub contents-parts : {H : Heap} (l : ℕ) {t : Table} → FineHeap P H → l < length H → get_or H l no_cell ≡ Cell.contents t → AllByRecursion (λ p. Fine P H p.0 × Fine P H p.1) t
  contents-parts l h b e = keys_of (h.cells l b) e

  field-value : {H : Heap} (p : Val × Val) → FineField P H p → Fine P H p.1
  field-value (Val.int n, v) h = absurd h
  field-value (Val.string x, v) h = h.1
  field-value (Val.identifier i, v) h = absurd h
  field-value (Val.location l, v) h = absurd h

  field-with : {H : Heap} (v : Val) → Fine P H v → (p : Val × Val) → FineField P H p → FineField P H (p.0, v)
  field-with v f (Val.int n, w) h = h
  field-with v f (Val.string x, w) h = (h.0, f)
  field-with v f (Val.identifier i, w) h = h
  field-with v f (Val.location l, w) h = h

  -- what a field holds is a value
  pub field-fine : {H : Heap} (l : ℕ) {C : List ℕ} {fs : Table} (k : Val) {v : Val} → FineHeap P H → get_or H l no_cell ≡ Cell.object C fs → bytes_eq C (codes "Map") ≡ false → look k fs ≡ Some v → Fine P H v
  field-fine {H} l {C} {fs} k {v} h e m g = look-all (Fine P H) fs k v (All-weaker _ _ field-value fs (object-parts l h e m).1) g

  -- so is what a key holds
  pub key-fine : {H : Heap} (l : ℕ) {t : Table} (k : Val) {v : Val} → FineHeap P H → l < length H → get_or H l no_cell ≡ Cell.contents t → look k t ≡ Some v → Fine P H v
  key-fine {H} l {t} k {v} h b e g = look-all (Fine P H) t k v (All-weaker _ _ (λ p q. q.1) t (contents-parts l h b e)) g

  -- a write keeps a heap sound, if the cell that is written is fine
  sound-put : {H : Heap} (l : ℕ) (k v : Val) (x : Cell) → Sound P H → l < length H → get_or H l no_cell ≡ x → FineCell P (put_at H l k v) l (with_table (put k v (cell_table x)) x) → Sound P (put_at H l k v)
  sound-put {H} l k v x h b e f = record {
    fine = record { cells = here; bot = (grows-put H l k v).objects 0 (codes "Bot") h.fine.bot.0 h.fine.bot.1 };
    backed = record { behind = λ j fs g. let o = object-before H l k v j (codes "Map") fs g in omega (arith, h.backed.behind j o.0 o.1, length-put_at H l k v) };
  } where
    written : get_or (put_at H l k v) l no_cell ≡ with_table (put k v (cell_table x)) x
    written = get_or-set_same H l (with_table (put k v (fields_of H l)) (get_or H l no_cell)) no_cell b ∙ ap (λ (y : Cell). with_table (put k v (cell_table y)) y) e

    here : (j : ℕ) → j < length (put_at H l k v) → FineCell P (put_at H l k v) j (get_or (put_at H l k v) j no_cell)
    here j c =
        ⊎_elim
        (λ (q : j ≡ l). rw q (subst (FineCell P (put_at H l k v) l) (sym written) f))
        (λ (n : j ≡ l → ⊥).
        subst (FineCell P (put_at H l k v) j) (sym (get_or-set_other H l j (with_table (put k v (fields_of H l)) (get_or H l no_cell)) no_cell n))
        (cells-grow h (grows-put H l k v) (keeps-put H l k v) j (omega (arith, length-put_at H l k v))))
        (cases_eq j l)

  -- a field of an object that is no Map is written
  pub sound-field : {H : Heap} (l : ℕ) {C : List ℕ} {fs : Table} (x : List ℕ) {v : Val} → Sound P H → get_or H l no_cell ≡ Cell.object C fs → bytes_eq C (codes "Map") ≡ false → FieldName x → Fine P H v → Sound P (put_at H l (Val.string x) v)
  sound-field {H} l {C} {fs} x {v} h e m n f =
      let o = object-parts l h.fine e m in
      let g = grows-put H l (Val.string x) v in
      let a = All-weaker _ _ (λ p. field-grows p g) fs o.1 in
      sound-put l (Val.string x) v (Cell.object C fs) h (object-here H l e) e
      (an_object o.2 o.0 (put_all _ fs (Val.string x) v (field-with v (fine-grows g f)) a (n, fine-grows g f)))

  -- a key of a Map's contents is written
  pub sound-key : {H : Heap} (l : ℕ) {t : Table} {k v : Val} → Sound P H → l < length H → get_or H l no_cell ≡ Cell.contents t → Fine P H k → Fine P H v → Sound P (put_at H l k v)
  sound-key {H} l {t} {k} {v} h b e f f' =
      let g = grows-put H l k v in
      let a = All-weaker _ _ (λ p q. (fine-grows g q.0, fine-grows g q.1)) t (contents-parts l h.fine b e) in
      sound-put l k v (Cell.contents t) h b e
      (its_contents (put_all _ t k v (λ p q. (q.0, fine-grows g f')) a (fine-grows g f, fine-grows g f')))

  -- cells behind a sound heap, each fine there, the Maps among them with a cell behind
  sound_more : {H : Heap} (R : Heap) → Sound P H → ((i : ℕ) → i < length R → FineCell P (H ++ R) (length H + i) (get_or R i no_cell)) → ((i : ℕ) (fs : Table) → get_or R i no_cell ≡ Cell.object (codes "Map") fs → suc i < length R) → Sound P (H ++ R)
  sound_more {H} R h f m = record {
    fine = record { cells = here; bot = (grows-more H R).objects 0 (codes "Bot") h.fine.bot.0 h.fine.bot.1 };
    backed = record { behind = within };
  } where
    old : (j : ℕ) → j < length H → get_or (H ++ R) j no_cell ≡ get_or H j no_cell
    old j b = get_or_append_left H R no_cell j b

    new : (j : ℕ) → length H ≤ j → get_or (H ++ R) j no_cell ≡ get_or R (j - length H) no_cell
    new j b = get_or-append_right H R (length H) j no_cell refl b

    here : (j : ℕ) → j < length (H ++ R) → FineCell P (H ++ R) j (get_or (H ++ R) j no_cell)
    here j c =
        ⊎_elim
        (λ (b : j < length H). subst (FineCell P (H ++ R) j) (sym (old j b)) (cells-grow h (grows-more H R) (keeps-more H R) j b))
        (λ (b : length H ≤ j).
        let e : length H + (j - length H) ≡ j = omega arith in
        subst (FineCell P (H ++ R) j) (sym (new j b))
        (subst (λ (n : ℕ). FineCell P (H ++ R) n (get_or R (j - length H) no_cell)) e (f (j - length H) (omega (arith, length-append H R)))))
        (cases_lt j (length H))

    within : (j : ℕ) (fs : Table) → get_or (H ++ R) j no_cell ≡ Cell.object (codes "Map") fs → suc j < length (H ++ R)
    within j fs e =
        ⊎_elim
        (λ (b : j < length H). omega (arith, length-append H R, h.backed.behind j fs (sym (old j b) ∙ e)))
        (λ (b : length H ≤ j). omega (arith, length-append H R, m (j - length H) fs (sym (new j b) ∙ e)))
        (cases_lt j (length H))

  -- a new object of a known class
  pub sound-object : {H : Heap} (C : List ℕ) → Sound P H → known P C ≡ true → Plain C → Sound P (H ++ Cell.object C [] ∷ [])
  sound-object {H} C h k m = sound_more (Cell.object C [] ∷ []) h cells maps where
    cells : (i : ℕ) → i < 1 → FineCell P (H ++ Cell.object C [] ∷ []) (length H + i) (get_or (Cell.object C [] ∷ []) i no_cell)
    cells zero b = an_object m k tt
    cells (suc i) b = absurd (omega arith)

    maps : (i : ℕ) (fs : Table) → get_or (Cell.object C [] ∷ []) i no_cell ≡ Cell.object (codes "Map") fs → suc i < 1
    maps zero fs e =
        let z : C ≡ codes "Map" = cc in
        absurd (both_ways _ m.0 (ap (λ (B : List ℕ). bytes_eq B (codes "Map")) z))
    maps (suc i) fs e = let z : ◌≡◌ {A = ℕ} 0 1 = cc in absurd (omega arith)

  -- a new Map with its contents
  pub sound-map : {H : Heap} → Sound P H → Sound P (H ++ cells_of (codes "Map") H)
  sound-map {H} h = sound_more (cells_of (codes "Map") H) h cells maps where
    behind : get_or (H ++ cells_of (codes "Map") H) (suc (length H)) no_cell ≡ Cell.contents []
    behind =
        let e : suc (length H) ≡ length H + 1 = omega arith in
        ap (λ (n : ℕ). get_or (H ++ cells_of (codes "Map") H) n no_cell) e ∙ get_or-append-add H (cells_of (codes "Map") H) 1 no_cell

    cells : (i : ℕ) → i < 2 → FineCell P (H ++ cells_of (codes "Map") H) (length H + i) (get_or (cells_of (codes "Map") H) i no_cell)
    cells zero b =
        let e : length H ≡ length H + 0 = omega arith in
        subst (λ (n : ℕ). FineCell P (H ++ cells_of (codes "Map") H) n (get_or (cells_of (codes "Map") H) 0 no_cell)) e (a_map behind)
    cells (suc zero) b = its_contents tt
    cells (suc (suc i)) b = absurd (omega arith)

    maps : (i : ℕ) (fs : Table) → get_or (cells_of (codes "Map") H) i no_cell ≡ Cell.object (codes "Map") fs → suc i < 2
    maps zero fs e = omega arith
    maps (suc zero) fs e = let z : ◌≡◌ {A = ℕ} 0 1 = cc in absurd (omega arith)
    maps (suc (suc i)) fs e = let z : ◌≡◌ {A = ℕ} 0 1 = cc in absurd (omega arith)

  -- an object of any known class
  pub sound-make : {H : Heap} (C : List ℕ) → Sound P H → known P C ≡ true → bytes_eq C (codes "String") ≡ false → bytes_eq C (codes "Integer") ≡ false → Sound P (H ++ cells_of C H)
  sound-make {H} C h k s i = by (bytes_eq C (codes "Map")) refl where
    by : (b : Bool) → bytes_eq C (codes "Map") ≡ b → Sound P (H ++ cells_of C H)
    by true e = rw ((bytes_eq-Decides C (codes "Map")).0 e) (sound-map h)
    by false e = rw (cells-object C H e) (sound-object C h k (e, s, i))

  -- nil and the top-level self
  pub sound-first : Sound P first_heap
  sound-first = record {
    fine = record { cells = cells; bot = ([], refl) };
    backed = record { behind = maps };
  } where
    cells : (l : ℕ) → l < 2 → FineCell P first_heap l (get_or first_heap l no_cell)
    cells zero b = an_object (refl, refl, refl) refl tt
    cells (suc zero) b = an_object (refl, refl, refl) refl tt
    cells (suc (suc l)) b = absurd (omega arith)

    maps : (l : ℕ) (fs : Table) → get_or first_heap l no_cell ≡ Cell.object (codes "Map") fs → suc l < 2
    maps zero fs e = omega arith
    maps (suc zero) fs e =
        let z : codes "Object" ≡ codes "Map" = cc in
        absurd (both_ways _ refl (ap (λ (B : List ℕ). bytes_eq B (codes "Map")) z))
    maps (suc (suc l)) fs e = let z : ◌≡◌ {A = ℕ} 0 1 = cc in absurd (omega arith)

  -- what was just made is a value
  pub made-fine : (H : Heap) (C : List ℕ) → known P C ≡ true → Fine P (H ++ cells_of C H) (Val.location (length H))
  made-fine H C k = by (bytes_eq C (codes "Map")) refl where
    by : (b : Bool) → bytes_eq C (codes "Map") ≡ b → Fine P (H ++ cells_of C H) (Val.location (length H))
    by true e = rw ((bytes_eq-Decides C (codes "Map")).0 e) (object (get_or_at H _ (Cell.contents [] ∷ []) no_cell (length H) refl) refl)
    by false e = rw (cells-object C H e) (object (new-object H C) k)

  -- and can be a receiver of written methods if it is no Map
  pub made-self : (H : Heap) (C : List ℕ) → known P C ≡ true → bytes_eq C (codes "Map") ≡ false → Self P (H ++ cells_of C H) (Val.location (length H))
  made-self H C k m = rw (cells-object C H m) (self (new-object H C) m k)
