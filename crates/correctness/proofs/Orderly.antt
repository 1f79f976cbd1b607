-- Accepted classes are orderly: no class and no method that a class finds is named twice. Assumes nothing.
use Rattle.std.proofs.Common.{◌≡◌, ℕ, suc, ◌<◌, Bool, true, false, not, ◌&&◌, ◌||◌, List, [], ◌∷◌, ◌++◌, map, reverse, length, codes, sym, refl, ap, ◌∙◌, subst, arith}
use mathlib.Core.List.{reverse_aux}
use Rattle.std.specs.List.{AllByRecursion}
use Rattle.std.specs.Str.{bytes_eq}
use Rattle.std.proofs.lemmas.Slice.Eq.{bytes_eq-Decides}
use Rattle.std.proofs.lemmas.List.{map-append, length-reverse, length-map}
use Rattle.std.proofs.lemmas.Bool.{both_ways, not-true, and_parts, or_parts, or_from, or_left, or_right, cond_both}
use Rattle.machine.specs.Limits.{most_globals}
use Rattle.grammar.specs.Tree.{Method}
use Rattle.rube.specs.declared.builtin.Builtin.{Builtin}
use Rattle.rube.specs.Builtin as builtin
use Rattle.rube.specs.Builtin.{class_name}
use Rattle.rube.specs.Classes.{Named, Classes, among, names, rows_of, own, inherited, visible, added_methods, class_names, class_count}
use Rattle.compiler.specs.Layout.{place_in}
use Rattle.correctness.specs.Fitting.{MethodName}
use Rattle.correctness.specs.Accepted.{Distinct, added, Accepted, Few}
use Rattle.correctness.proofs.Values.{same_bytes, bytes-either-way}
use Rattle.correctness.proofs.Lookup.{built_in_names, known_is, added-unlike}

abbrev pub method_names_of : {A : Type 0} → List (Named A) → List (List ℕ)
method_names_of ms = map (λ m. m.name) ms

-- what the start-up code needs of the classes
pub record Orderly {A : Type 0} (P : Classes A) : Type 0 where
  -- a class is found at its own place
  pub placed : (Bs : List (List ℕ)) (C : List ℕ) (Cs : List (List ℕ)) → Bs ++ C ∷ Cs ≡ class_names P → place_in (class_names P) C ≡ length Bs
  -- the methods that a class finds differ in name, and none has the name of a class table's own key
  pub differ : (C : List ℕ) → Distinct (method_names_of (visible P C))
  pub keyless : (C : List ℕ) → among (method_names_of (visible P C)) (codes "#name") ≡ false
  -- nil and each class have a global
  pub few : class_count P < most_globals

-- lists of names

-- a name that is among these is unlike one that is not
pub unlike-among : (xs : List (List ℕ)) (x y : List ℕ) → among xs x ≡ false → among xs y ≡ true → bytes_eq x y ≡ false
unlike-among xs x y n h = by (bytes_eq x y) refl where
  by : (b : Bool) → bytes_eq x y ≡ b → b ≡ false
  by true e = absurd (both_ways (among xs y) (subst (λ (z : List ℕ). among xs z ≡ false) ((bytes_eq-Decides x y).0 e) n) h)
  by false e = refl

abbrev Apart : List (List ℕ) → List (List ℕ) → Type 0
Apart xs ys = (x : List ℕ) → among xs x ≡ true → among ys x ≡ false

among-append : (xs ys : List (List ℕ)) (x : List ℕ) → among (xs ++ ys) x ≡ (among xs x || among ys x)
among-append [] ys x = refl
among-append (z ∷ xs) ys x = by (bytes_eq z x) (among-append xs ys x) where
  by : (b : Bool) → among (xs ++ ys) x ≡ (among xs x || among ys x) → (b || among (xs ++ ys) x) ≡ ((b || among xs x) || among ys x)
  by true h = refl
  by false h = h

among-head : (x : List ℕ) (xs : List (List ℕ)) → among (x ∷ xs) x ≡ true
among-head x xs = or_left (bytes_eq x x) (among xs x) (same_bytes x)

-- names that differ, before others that differ from them and from each other
distinct_append : (xs ys : List (List ℕ)) → Distinct xs → Distinct ys → Apart xs ys → Distinct (xs ++ ys)
distinct_append [] ys d e a = e
distinct_append (x ∷ xs) ys d e a = (
  among-append xs ys x ∙ or_from (among xs x) (among ys x) d.0 (a x (among-head x xs)),
  distinct_append xs ys d.1 e (λ z h. a z (or_right (bytes_eq x z) (among xs z) h)),
)

distinct-reversed : (xs ys : List (List ℕ)) → Distinct xs → Distinct ys → Apart xs ys → Distinct (reverse_aux xs ys)
distinct-reversed [] ys d e a = e
distinct-reversed (x ∷ xs) ys d e a =
    distinct-reversed xs (x ∷ ys) d.1 (a x (among-head x xs), e)
    (λ z h. or_from (bytes_eq x z) (among ys z) (unlike-among xs x z d.0 h) (a z (or_right (bytes_eq x z) (among xs z) h)))

-- where names differ, each is found at its own place
pub place_of : (Bs : List (List ℕ)) (C : List ℕ) (Cs : List (List ℕ)) → Distinct (Bs ++ C ∷ Cs) → place_in (Bs ++ C ∷ Cs) C ≡ length Bs
place_of [] C Cs d = rw (same_bytes C)
place_of (B ∷ Bs) C Cs d =
    rw (unlike-among (Bs ++ C ∷ Cs) B C d.0 (among-append Bs (C ∷ Cs) C ∙ or_right (among Bs C) (among (C ∷ Cs) C) (among-head C Cs)))
    (ap suc (place_of Bs C Cs d.1))

-- the classes

among-reversed : (xs ys : List (List ℕ)) (x : List ℕ) → among xs x ≡ false → among ys x ≡ false → among (reverse_aux xs ys) x ≡ false
among-reversed [] ys x h k = k
among-reversed (z ∷ xs) ys x h k =
    let p = or_parts (bytes_eq z x) (among xs x) h in
    among-reversed xs (z ∷ ys) x p.1 (or_from (bytes_eq z x) (among ys x) p.0 k)

module _ {A : Type 0} where
  added-distinct : (P : Classes A) → Accepted P → Distinct (added P)
  added-distinct [] a = tt
  added-distinct (K ∷ older) a = (
    (or_parts (among built_in_names K.name) (among (added older) K.name) (sym (known_is older K.name) ∙ a.0.new-name)).1,
    added-distinct older a.1,
  )

  pub classes-distinct : (P : Classes A) → Accepted P → Distinct (class_names P)
  classes-distinct P a =
      distinct_append built_in_names (reverse (added P)) (refl, (refl, (refl, (refl, (refl, tt)))))
      (distinct-reversed (added P) [] (added-distinct P a) tt (λ x h. refl))
      (λ x h. among-reversed (added P) [] x (by x h (among (added P) x) refl) refl)
    where
      by : (x : List ℕ) → among built_in_names x ≡ true → (b : Bool) → among (added P) x ≡ b → b ≡ false
      by x h true e = absurd (both_ways _ (added-unlike P x a e) h)
      by x h false e = refl

  pub class-placed : (P : Classes A) → Accepted P → (Bs : List (List ℕ)) (C : List ℕ) (Cs : List (List ℕ)) → Bs ++ C ∷ Cs ≡ class_names P → place_in (class_names P) C ≡ length Bs
  class-placed P a Bs C Cs e =
      ap (λ (N : List (List ℕ)). place_in N C) (sym e) ∙ place_of Bs C Cs (subst Distinct (sym e) (classes-distinct P a))

-- the methods that a class finds

-- has a class a row of this name?
abbrev has_row : List ℕ → List ℕ → List Builtin → List (List ℕ) → Bool
has_row C x [] ns = false
has_row C x (b ∷ bs) [] = false
has_row C x (b ∷ bs) (n ∷ ns) = (bytes_eq (class_name b.class) C && bytes_eq n x) || has_row C x bs ns

-- no two rows are of one class and name
abbrev once : List Builtin → List (List ℕ) → Bool
once [] ns = true
once (b ∷ bs) [] = true
once (b ∷ bs) (n ∷ ns) = not (has_row (class_name b.class) n bs ns) && once bs ns

table-once : once builtin.table builtin.names ≡ true
table-once = refl

table-keyless : among builtin.names (codes "#name") ≡ false
table-keyless = refl

module _ (A : Type 0) (C : List ℕ) where
  rows_named : (x : List ℕ) (bs : List Builtin) (ns : List (List ℕ)) → has_row C x bs ns ≡ false → among (method_names_of (rows_of {A = A} C bs ns)) x ≡ false
  rows_named x [] ns h = refl
  rows_named x (b ∷ bs) [] h = refl
  rows_named x (b ∷ bs) (n ∷ ns) h =
      let p = or_parts (bytes_eq (class_name b.class) C && bytes_eq n x) (has_row C x bs ns) h in
      let rest = rows_named x bs ns p.1 in
      cond_both (bytes_eq (class_name b.class) C) _ _ (λ ms. among (method_names_of ms) x ≡ false)
      (λ e. or_from (bytes_eq n x) _ (rw e at p.0) rest)
      (λ e. rest)

  rows-differ : (bs : List Builtin) (ns : List (List ℕ)) → once bs ns ≡ true → Distinct (method_names_of (rows_of {A = A} C bs ns))
  rows-differ [] ns h = tt
  rows-differ (b ∷ bs) [] h = tt
  rows-differ (b ∷ bs) (n ∷ ns) h =
      let p = and_parts (not (has_row (class_name b.class) n bs ns)) (once bs ns) h in
      let rest = rows-differ bs ns p.1 in
      cond_both (bytes_eq (class_name b.class) C) _ _ (λ ms. Distinct (method_names_of ms))
      (λ e. (
        rows_named n bs ns
            (subst (λ (D : List ℕ). has_row D n bs ns ≡ false) ((bytes_eq-Decides (class_name b.class) C).0 e) (not-true (has_row (class_name b.class) n bs ns) p.0)),
        rest,
      ))
      (λ e. rest)

  rows-keyless : (x : List ℕ) (bs : List Builtin) (ns : List (List ℕ)) → among ns x ≡ false → among (method_names_of (rows_of {A = A} C bs ns)) x ≡ false
  rows-keyless x [] ns h = refl
  rows-keyless x (b ∷ bs) [] h = refl
  rows-keyless x (b ∷ bs) (n ∷ ns) h =
      let p = or_parts (bytes_eq n x) (among ns x) h in
      let rest = rows-keyless x bs ns p.1 in
      cond_both (bytes_eq (class_name b.class) C) _ _ (λ ms. among (method_names_of ms) x ≡ false)
      (λ e. or_from (bytes_eq n x) _ p.0 rest)
      (λ e. rest)

module _ {A : Type 0} where
  names_in : (ms : List (Named A)) (x : List ℕ) → names ms x ≡ among (method_names_of ms) x
  names_in [] x = refl
  names_in (m ∷ ms) x = ap (λ (b : Bool). bytes_eq m.name x || b) (names_in ms x)

  own-names : (i : ℕ) (ms : List (Method A)) → method_names_of (own i ms) ≡ map (λ m. m.name) ms
  own-names i [] = refl
  own-names i (m ∷ ms) = ap (λ (xs : List (List ℕ)). m.name ∷ xs) (own-names (suc i) ms)

  -- what is inherited has no new name
  inherited-new : (mine ms : List (Named A)) (x : List ℕ) → among (method_names_of ms) x ≡ false → among (method_names_of (inherited mine ms)) x ≡ false
  inherited-new mine [] x h = refl
  inherited-new mine (m ∷ ms) x h =
      let p = or_parts (bytes_eq m.name x) (among (method_names_of ms) x) h in
      let rest = inherited-new mine ms x p.1 in
      cond_both (names mine m.name) (inherited mine ms) (m ∷ inherited mine ms) (λ ns. among (method_names_of ns) x ≡ false) (λ e. rest)
      (λ e. or_from (bytes_eq m.name x) (among (method_names_of (inherited mine ms)) x) p.0 rest)

  inherited-differ : (mine ms : List (Named A)) → Distinct (method_names_of ms) → Distinct (method_names_of (inherited mine ms))
  inherited-differ mine [] d = tt
  inherited-differ mine (m ∷ ms) d =
      let rest = inherited-differ mine ms d.1 in
      cond_both (names mine m.name) (inherited mine ms) (m ∷ inherited mine ms) (λ ns. Distinct (method_names_of ns)) (λ e. rest)
      (λ e. (inherited-new mine ms m.name d.0, rest))

  -- and none that overrides
  inherited-apart : (mine ms : List (Named A)) → Apart (method_names_of mine) (method_names_of (inherited mine ms))
  inherited-apart mine [] x h = refl
  inherited-apart mine (m ∷ ms) x h =
      let rest = inherited-apart mine ms x h in
      cond_both (names mine m.name) (inherited mine ms) (m ∷ inherited mine ms) (λ ns. among (method_names_of ns) x ≡ false) (λ e. rest)
      (λ e. or_from (bytes_eq m.name x) (among (method_names_of (inherited mine ms)) x)
      (unlike-among (method_names_of mine) m.name x (sym (names_in mine m.name) ∙ e) h) rest)

  -- own methods, and then what is inherited
  found-differ : (mine ms : List (Named A)) → Distinct (method_names_of mine) → Distinct (method_names_of ms) → Distinct (method_names_of (mine ++ inherited mine ms))
  found-differ mine ms d e =
      subst Distinct (sym (map-append (λ (m : Named A). m.name) mine (inherited mine ms)))
      (distinct_append (method_names_of mine) (method_names_of (inherited mine ms)) d (inherited-differ mine ms e) (inherited-apart mine ms))

  found-new : (mine ms : List (Named A)) (x : List ℕ) → among (method_names_of mine) x ≡ false → among (method_names_of ms) x ≡ false → among (method_names_of (mine ++ inherited mine ms)) x ≡ false
  found-new mine ms x h k =
      ap (λ (xs : List (List ℕ)). among xs x) (map-append (λ (m : Named A). m.name) mine (inherited mine ms))
      ∙ among-append (method_names_of mine) (method_names_of (inherited mine ms)) x
      ∙ or_from (among (method_names_of mine) x) (among (method_names_of (inherited mine ms)) x) h (inherited-new mine ms x k)

  -- a class finds no two methods of one name
  pub visible-distinct : (P : Classes A) → Accepted P → (C : List ℕ) → Distinct (method_names_of (visible P C))
  unfolding visible
  visible-distinct [] a C = rows-differ A C builtin.table builtin.names table-once
  visible-distinct (K ∷ older) a C =
      let mine = own (added_methods older) K.methods in
      let others = visible-distinct older a.1 in
      cond_both (bytes_eq K.name C) (mine ++ inherited mine (visible older K.parent)) (visible older C) (λ ms. Distinct (method_names_of ms))
      (λ e. found-differ mine (visible older K.parent) (subst Distinct (sym (own-names (added_methods older) K.methods)) a.0.methods-once) (others K.parent))
      (λ e. others C)

  -- each method has a name that is no key of ours
  abbrev pub MethodNames : Classes A → Type 0
  MethodNames [] = Unit {0}
  MethodNames (K ∷ older) = AllByRecursion (λ m. MethodName m.name) K.methods × MethodNames older

  own-keyless : (ms : List (Method A)) → AllByRecursion (λ m. MethodName m.name) ms → among (map (λ m. m.name) ms) (codes "#name") ≡ false
  own-keyless [] a = refl
  own-keyless (m ∷ ms) a =
      or_from (bytes_eq m.name (codes "#name")) (among (map (λ m. m.name) ms) (codes "#name"))
      (bytes-either-way m.name (codes "#name") ∙ a.0) (own-keyless ms a.1)

  -- and so has each that a class finds
  pub visible-keyless : (P : Classes A) → MethodNames P → (C : List ℕ) → among (method_names_of (visible P C)) (codes "#name") ≡ false
  unfolding visible
  visible-keyless [] a C = rows-keyless A C (codes "#name") builtin.table builtin.names table-keyless
  visible-keyless (K ∷ older) a C =
      let mine = own (added_methods older) K.methods in
      let others = visible-keyless older a.1 in
      cond_both (bytes_eq K.name C) (mine ++ inherited mine (visible older K.parent)) (visible older C) (λ ms. among (method_names_of ms) (codes "#name") ≡ false)
      (λ e. found-new mine (visible older K.parent) (codes "#name")
      (ap (λ (xs : List (List ℕ)). among xs (codes "#name")) (own-names (added_methods older) K.methods) ∙ own-keyless K.methods a.0)
      (others K.parent))
      (λ e. others C)

  -- accepted classes are orderly
  pub accepted-orderly : (P : Classes A) → Accepted P → Few P → MethodNames P → Orderly P
  accepted-orderly P a f n =
      record {
        placed = class-placed P a;
        differ = visible-distinct P a;
        keyless = visible-keyless P n;
        few = simp (length-reverse, length-map) (omega (arith, f.few-classes));
      }
