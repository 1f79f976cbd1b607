-- The distinct names of a body, kept as spans of its text.
use Rattle.std.proofs.Common.{◌≡◌, ℕ, zero, suc, ◌+◌, ◌^◌, ◌<◌, ◌≤◌, Bool, true, false, ◌||◌, List, [], ◌∷◌, ◌++◌, map, length, get_or, take, Some, None, Option, Ok, Err, Result, MatchResult, is_some, sym, refl, ap, ◌∙◌, subst, ⊎_elim, arith}
use Rattle.std.proofs.lemmas.Slice.Eq.{bytes_eq-Decides}
use Rattle.std.proofs.lemmas.List.{map_push, length_push, length-map, length-take, take_all, take-append-le, get_or-map, get_or-take}
use Rattle.std.proofs.lemmas.Bool.{cases_Bool, or_right, or_from, cond-true, cond-false}
use Rattle.std.specs.Str.{bytes_eq}
use Rattle.stack.specs.declared.Stack.{Stack}
use Rattle.stack.specs.Held.{held, room}
use Rattle.text.specs.declared.span.Span.{Span}
use Rattle.text.specs.First.{First}
use Rattle.text.specs.Memory.{bytes_of}
use Rattle.grammar.specs.Measure.{known, learn, learn_all}
use Rattle.syntax.specs.Sight.{slice}
use Rattle.nodes.specs.Trees.{span_of}
use Rattle.syntax.specs.declared.read.Variable.{Variable}
use Rattle.syntax.specs.declared.read.Variable.TheVariants as variable
use Rattle.syntax.specs.Sizes.{lone, Knows, Learns}
use Rattle.syntax.specs.Parsing.{named, LearnsTarget}
use Rattle.syntax.proofs.Nodes.{word-from}

pub known_at : (ns : List (List ℕ)) (i : ℕ) (x : List ℕ) → i < length ns → get_or ns i [] ≡ x → known ns x ≡ true
known_at [] i x h e = absurd (omega arith)
known_at (y ∷ ns) zero x h e = ap (λ b. b || known ns x) ((bytes_eq-Decides y x).1 e)
known_at (y ∷ ns) (suc i) x h e = or_right (bytes_eq y x) (known ns x) (known_at ns i x (omega arith) e)

refuted : (b : Bool) → (b ≡ true → ⊥) → b ≡ false
refuted true h = absurd (h refl)
refuted false h = refl

pub known-nowhere : (ns : List (List ℕ)) (x : List ℕ) → ((i : ℕ) → i < length ns → get_or ns i [] ≡ x → ⊥) → known ns x ≡ false
known-nowhere [] x h = refl
known-nowhere (y ∷ ns) x h =
    or_from (bytes_eq y x) (known ns x) (refuted (bytes_eq y x) (λ e. h 0 (omega arith) ((bytes_eq-Decides y x).0 e))) (known-nowhere ns x (λ i lt e. h (suc i) (omega arith) e))

pub learn-known : (ns : List (List ℕ)) (x : List ℕ) → known ns x ≡ true → learn ns x ≡ ns
learn-known ns x e = cond-true (known ns x) _ _ e

pub learn-new : (ns : List (List ℕ)) (x : List ℕ) → known ns x ≡ false → learn ns x ≡ ns ++ (x ∷ [])
learn-new ns x e = cond-false (known ns x) _ _ e

pub learn-longer : (ns : List (List ℕ)) (x : List ℕ) → length ns ≤ length (learn ns x)
learn-longer ns x =
    ⊎_elim (λ e. let l = ap length (learn-known ns x e) in omega arith) (λ e. let l = ap length (learn-new ns x e) in let p = length_push ns x in omega arith) (cases_Bool (known ns x))

-- names are learnt in their order
pub learn-all-more : (ns ps : List (List ℕ)) (x : List ℕ) → learn_all ns (ps ++ (x ∷ [])) ≡ learn (learn_all ns ps) x
learn-all-more ns [] x = refl
learn-all-more ns (p ∷ ps) x = learn-all-more (learn ns p) ps x

-- what is past the room changes nothing of what is held
take-learn : (n : ℕ) (ns : List (List ℕ)) (x : List ℕ) → n ≤ length ns → take n (learn ns x) ≡ take n ns
take-learn n ns x h =
    ⊎_elim (λ e. ap (take n) (learn-known ns x e)) (λ e. ap (take n) (learn-new ns x e) ∙ take-append-le n ns (x ∷ []) h) (cases_Bool (known ns x))

-- no names, before a body begins
pub no_names : {text : List ℕ} {us : Stack Span} → room us ≡ 17 → held us ≡ [] → Knows text us []
no_names {text} h e = record { room = h; words = ap (map (bytes_of (lone text))) e }

-- the bytes of a name in its own text
pub name-bytes : (text : List ℕ) (s : Span) (from to : ℕ) → from < 2 ^ 16 → from ≤ to → to ≤ length text → s ≡ span_of 0 from to → bytes_of (lone text) s ≡ slice text from to
name-bytes text s from to h le g e =
    ap (bytes_of (lone text)) e
    ∙ (word-from (lone text) text 0 from to (omega arith) (λ i lt. ap (λ z. get_or text z 0) (let e : 0 + i ≡ i = omega arith in e)) le g).1

-- so a name is learnt by where it lies
pub learnt-there : {text : List ℕ} {us vs : Stack Span} (s : Span) (from to : ℕ) → from < 2 ^ 16 → from ≤ to → to ≤ length text → s ≡ span_of 0 from to
    → Learns text us vs (bytes_of (lone text) s) → Learns text us vs (slice text from to)
learnt-there {text} {us} {vs} s from to h le g e l = subst (Learns text us vs) (name-bytes text s from to h le g e) l

module _ {text : List ℕ} {us : Stack Span} {xs : List Span} (own : Span) (is : xs ≡ held us) where
  -- a name that is among them
  pub learnt-known : (r : Option ℕ) → First (λ s. bytes_of (lone text) s ≡ bytes_of (lone text) own) xs r → is_some r ≡ true → Learns text us us (bytes_of (lone text) own)
  learnt-known None p e = let z : ◌≡◌ {A = ℕ} 0 1 = cc in absurd (omega arith)
  learnt-known (Some i) q e = record {
    learns = λ ns k.
        let f = bytes_of (lone text) in
        let m = length-map (held us) f in
        let w = ap length k.words in
        let t = length-take 17 ns in
        let p = subst (λ z. First (λ s. bytes_of (lone text) s ≡ bytes_of (lone text) own) z (Some i)) is q in
        let lt = p.0 in
        let at : get_or ns i [] ≡ f own = sym (get_or-take 17 ns i [] (omega arith)) ∙ ap (λ z. get_or z i []) (sym k.words) ∙ get_or-map f (held us) i own [] lt ∙ p.1 own in
        subst (Knows text us) (sym (learn-known ns _ (known_at ns i _ (omega arith) at))) k;
  }

  -- a new name, put behind the others while there is room
  pub learnt-new : {vs : Stack Span} {U : Type 0} (r : Option ℕ) (q : Result U Span) → First (λ s. bytes_of (lone text) s ≡ bytes_of (lone text) own) xs r → is_some r ≡ false → room vs ≡ room us
      → MatchResult q (λ _. length (held us) < room us) (λ y. (y ≡ own) × (length (held us) ≡ room us)) → MatchResult q (λ _. held vs ≡ held us ++ own ∷ []) (λ _. held vs ≡ held us) → Learns text us vs (bytes_of (lone text) own)
  learnt-new (Some i) q p e r full h = let z : ◌≡◌ {A = ℕ} 0 1 = cc in absurd (omega arith)
  learnt-new None (Ok u) q e r full h = record {
    learns = λ ns k.
        let f = bytes_of (lone text) in
        let m = length-map (held us) f in
        let w = ap length k.words in
        let t = length-take 17 ns in
        let size = k.room in
        let p = subst (λ z. First (λ s. bytes_of (lone text) s ≡ bytes_of (lone text) own) z None) is q in
        let all : take 17 ns ≡ ns = take_all 17 ns (omega arith) in
        let new : known ns (f own) ≡ false = known-nowhere ns (f own) (λ i lt g. p i own (omega arith) (sym (get_or-map f (held us) i own [] (omega arith)) ∙ ap (λ z. get_or z i []) (k.words ∙ all) ∙ g)) in
        let l = length_push ns (f own) in
        subst (Knows text _) (sym (learn-new ns (f own) new))
        (record {
          room = r ∙ k.room;
          words = ap (map f) h ∙ map_push f (held us) own ∙ ap (λ y. y ++ (f own ∷ [])) (k.words ∙ all) ∙ sym (take_all 17 (ns ++ (f own ∷ [])) (omega arith));
        });
  }
  learnt-new None (Err y) p e r full h = record {
    learns = λ ns k.
        let m = length-map (held us) (bytes_of (lone text)) in
        let w = ap length k.words in
        let t = length-take 17 ns in
        let size = k.room in
        let f = full.1 in
        record { room = r ∙ k.room; words = ap (map (bytes_of (lone text))) h ∙ k.words ∙ sym (take-learn 17 ns (bytes_of (lone text) own) (omega arith)) };
  }

-- the names that a write's target adds
pub target-field : {text : List ℕ} {us : Stack Span} (v : Variable) (x : List ℕ) → v ≡ variable.Field → LearnsTarget text us us (named v x)
target-field variable.Field x e = record { learns = λ ns k. k }
target-field variable.Local x e = let z : ◌≡◌ {A = ℕ} 0 1 = cc in absurd (omega arith)

pub target-local : {text : List ℕ} {us vs : Stack Span} (v : Variable) (x : List ℕ) → v ≡ variable.Local → Learns text us vs x → LearnsTarget text us vs (named v x)
target-local variable.Local x e l = record { learns = l.learns }
target-local variable.Field x e l = let z : ◌≡◌ {A = ℕ} 0 1 = cc in absurd (omega arith)
