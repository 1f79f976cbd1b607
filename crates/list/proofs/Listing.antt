-- The layout of the list store: a list of pairs, each with its place and its value. Assumes nothing.
use Rattle.std.proofs.Common.{◌≡◌, ℕ, ◌+◌, ◌<◌, ◌≤◌, true, false, List, [], ◌∷◌, ◌++◌, map, length, get_or, set, Some, None, sym, refl, ap, ◌∙◌, subst, arith}
use Rattle.std.proofs.ByRecursion.{All-weaker}
use Rattle.std.proofs.lemmas.List.{length-map, get_or-map, map-set, map-append}
use Rattle.std.proofs.lemmas.Bool.{lt-ltb, le-ltb}
use Rattle.text.specs.Memory.{Memory}
use Rattle.text.specs.Agree.{Grown}
use Rattle.text.specs.First.{first_place}
use Rattle.text.proofs.Firsts.{first_place-map}
use Rattle.store.specs.declared.key.Key.{Key}
use Rattle.store.specs.declared.value.Value.{Value}
use Rattle.store.specs.Val.{meaning, end_of}
use Rattle.store.specs.Tables.{Tables, pairs, made, read, write}
use Rattle.store.specs.Filed.{Filed, place_of, same_place, fits, Files}
use Rattle.store.specs.ValuesLemmas.{meaning-grown}
use Rattle.store.proofs.Rows.{file-found, file-none}
use Rattle.store.proofs.Filing.{files-none, files-length, files-pairs, files-make, files-found, files-nothing, files-file}
use Rattle.list.specs.declared.Pair.{Pair}
use Rattle.list.specs.Listed.{filed, Holds, Inside}

-- what holds of no pairs
pub ruleset nothing = (files-none)

filed-grown : (u : ℕ) (m n : Memory) → Grown u m n → (ps : List Pair) → Inside ps u → map (filed m) ps ≡ map (filed n) ps
filed-grown u m n g [] a = refl
filed-grown u m n g (p ∷ ps) a =
    let rest = filed-grown u m n g ps a.1 in
    λ i. ((p.key.location.0, meaning-grown u m n p.key.value g a.0.0 i), meaning-grown u m n p.value g a.0.1 i) ∷ rest i

pub holds-grown : (ps : List Pair) (n u : ℕ) (l m : Memory) (T : Tables) → Inside ps u → Grown u l m → Holds ps n l T → Holds ps n m T
holds-grown ps n u l m T a g h = subst (λ (es : List Filed). Files es n T) (filed-grown u l m g ps a) h

pub inside-wider : (ps : List Pair) (u v : ℕ) → u ≤ v → Inside ps u → Inside ps v
inside-wider ps u v h a =
    All-weaker (λ (p : Pair). (end_of p.key.value ≤ u) × (end_of p.value ≤ u)) (λ (p : Pair). (end_of p.key.value ≤ v) × (end_of p.value ≤ v)) (λ p q. (omega arith, omega arith)) ps a

module _ (ps : List Pair) (n : ℕ) (m : Memory) (T : Tables) (h : Holds ps n m T) where
  pub holds-length : length T ≡ n
  holds-length = files-length (map (filed m) ps) n T h

  pub holds-pairs : pairs T ≡ length ps
  holds-pairs = files-pairs (map (filed m) ps) n T h ∙ length-map ps (filed m)

  pub holds-make : Holds ps (n + 1) m (T ++ [] ∷ [])
  holds-make = files-make (map (filed m) ps) n T h

  pub holds-made : (l : ℕ) → l < n → made T l ≡ true
  holds-made l q = lt-ltb l (length T) (omega (arith, holds-length))

  pub holds-unmade : (l : ℕ) → n ≤ l → made T l ≡ false
  holds-unmade l q = le-ltb l (length T) (omega (arith, holds-length))

  module _ (k : Key) where
    -- a key that is there has the value beside it
    pub holds-found : (i : ℕ) (d : Pair) → Some i ≡ first_place (λ (p : Pair). same_place (place_of m p.key) (place_of m k)) ps → i < length ps
        → read T k.location.0 (meaning m k.value) ≡ Some (meaning m (get_or ps i d).value)
    holds-found i d f q =
        files-found (map (filed m) ps) n T h k.location.0 (meaning m k.value) i (filed m d) (first_place-map (filed m) (fits (place_of m k)) ps ∙ sym f)
        ∙ ap (λ (e : Filed). Some e.1) (get_or-map (filed m) ps i d (filed m d) q)

    pub holds-none : None ≡ first_place (λ (p : Pair). same_place (place_of m p.key) (place_of m k)) ps → read T k.location.0 (meaning m k.value) ≡ None
    holds-none f =
        files-nothing (map (filed m) ps) n T h k.location.0 (meaning m k.value) (first_place-map (filed m) (fits (place_of m k)) ps ∙ sym f)

    -- a write to it replaces that value
    pub holds-set : (i : ℕ) (d : Pair) (v : Value) → Some i ≡ first_place (λ (p : Pair). same_place (place_of m p.key) (place_of m k)) ps → i < length ps → k.location.0 < n
        → Holds (set ps i (record { key = (get_or ps i d).key; value = v })) n m (write T k.location.0 (meaning m k.value) (meaning m v))
    holds-set i d v f q lt =
        subst (λ (z : List Filed). Files z n (write T k.location.0 (meaning m k.value) (meaning m v)))
        (file-found (place_of m k) (meaning m v) (map (filed m) ps) i (filed m d) (first_place-map (filed m) (fits (place_of m k)) ps ∙ sym f)
        ∙ ap (λ (x : Filed). set (map (filed m) ps) i (x.0, meaning m v)) (get_or-map (filed m) ps i d (filed m d) q)
        ∙ sym (map-set (filed m) ps i (record { key = (get_or ps i d).key; value = v })))
        (files-file (map (filed m) ps) n T h k.location.0 (meaning m k.value) (meaning m v) lt)

    -- a new key goes behind the others
    pub holds-push : (v : Value) (qs : List Pair) → qs ≡ ps ++ (record { key = k; value = v }) ∷ [] → None ≡ first_place (λ (p : Pair). same_place (place_of m p.key) (place_of m k)) ps → k.location.0 < n
        → Holds qs n m (write T k.location.0 (meaning m k.value) (meaning m v))
    holds-push v qs e f lt =
        subst (λ (z : List Filed). Files z n (write T k.location.0 (meaning m k.value) (meaning m v)))
        (file-none (place_of m k) (meaning m v) (map (filed m) ps) (first_place-map (filed m) (fits (place_of m k)) ps ∙ sym f)
        ∙ sym (map-append (filed m) ps (record { key = k; value = v } ∷ []))
        ∙ sym (ap (map (filed m)) e))
        (files-file (map (filed m) ps) n T h k.location.0 (meaning m k.value) (meaning m v) lt)
