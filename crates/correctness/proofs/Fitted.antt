-- Every expression within the limits fits a frame: its names have slots, and the registers suffice. Assumes nothing.
use Rattle.std.proofs.Common.{◌≡◌, ℕ, zero, suc, ◌+◌, ◌*◌, ◌<◌, ◌≤◌, Bool, true, false, cond, ◌||◌, List, [], ◌∷◌, ◌++◌, length, Some, sym, refl, ap, ◌∙◌, subst, arith, length-append}
use mathlib.Core.Bool.{or_assoc, or-false}
use Rattle.std.specs.List.{slice_get, AllByRecursion}
use Rattle.std.specs.Str.{bytes_eq}
use Rattle.std.proofs.ByRecursion.{All-append}
use Rattle.std.proofs.lemmas.Slice.Eq.{bytes_eq-Decides}
use Rattle.std.proofs.lemmas.Bool.{or_left, or_right}
use Rattle.std.proofs.lemmas.Bool.Decides.{nat_tests}
use Rattle.machine.specs.Limits.{registers_per_frame}
use Rattle.lexer.specs.Law.{Word, Field}
use Rattle.grammar.specs.Tree.{Expr, Args, Method}
use Rattle.grammar.specs.Limits.{argument_limit, name_limit}
use Rattle.grammar.specs.Measure.{
  depth,
  arg_depth,
  count,
  most_arguments,
  most_within,
  known,
  learn,
  learn_all,
  names_after,
  names_after_args,
  names_of,
  BodyWithin,
  MethodsWithin,
}
use Rattle.rube.specs.Classes.{among, Classes, all_methods}
use Rattle.compiler.specs.Layout.{slots, free}
use Rattle.correctness.specs.Fitting.{FieldName, MethodName, Fit, Fits}
use Rattle.correctness.specs.Spelled.{Spelled, SpelledArgs, SpelledMethod, SpelledClass}
use Rattle.correctness.specs.CodeSize.{ClassesWithin}

-- a field is no key of ours
pub field-name : (x : List ℕ) → Field x → FieldName x
field-name [] h = h
field-name (b ∷ x) h = h.0

-- no identifier begins with `#`
pub method-name : (x : List ℕ) → Word x → MethodName x
method-name [] h = refl
method-name (b ∷ x) h = let e = h.1.0 in grind (arith, nat_tests)

-- the two tests on names are one
pub known_among : (ns : List (List ℕ)) (x : List ℕ) → known ns x ≡ among ns x
known_among ns x = refl

among-append : (ns ms : List (List ℕ)) (x : List ℕ) → among (ns ++ ms) x ≡ (among ns x || among ms x)
among-append [] ms x = refl
among-append (n ∷ ns) ms x = ap (λ b. bytes_eq n x || b) (among-append ns ms x) ∙ sym (or_assoc (bytes_eq n x) (among ns x) (among ms x))

among-equal : (ns : List (List ℕ)) (x y : List ℕ) (b : Bool) → among ns x ≡ true → bytes_eq x y ≡ b → among ns y ≡ (among ns y || b)
among-equal ns x y true h e =
    let q = (bytes_eq-Decides x y).0 e in
    let g : among ns y ≡ true = rw q at h in
    rw g
among-equal ns x y false h e = sym (or-false (among ns y))

among-learned : (ns : List (List ℕ)) (x y : List ℕ) (b : Bool) → known ns x ≡ b → among (cond b ns (ns ++ (x ∷ []))) y ≡ (among ns y || bytes_eq x y)
among-learned ns x y true h = among-equal ns x y (bytes_eq x y) h refl
among-learned ns x y false h = among-append ns (x ∷ []) y ∙ ap (λ b. among ns y || b) (or-false (bytes_eq x y))

-- a name that was learned is among the names
pub among-learn : (ns : List (List ℕ)) (x y : List ℕ) → among (learn ns x) y ≡ (among ns y || bytes_eq x y)
among-learn ns x y = among-learned ns x y (known ns x) refl

-- the names of ns are among ms too
pub record Within (ns ms : List (List ℕ)) : Type 0 where
  pub has : (x : List ℕ) → among ns x ≡ true → among ms x ≡ true

within-itself : {ns : List (List ℕ)} → Within ns ns
within-itself = record { has = λ x h. h }

within_both : {ns ms ks : List (List ℕ)} → Within ns ms → Within ms ks → Within ns ks
within_both p q = record { has = λ x h. q.has x (p.has x h) }

learn-keeps : (ns : List (List ℕ)) (x : List ℕ) → Within ns (learn ns x)
learn-keeps ns x = record { has = λ y h. among-learn ns x y ∙ or_left (among ns y) (bytes_eq x y) h }

learn-has : (ns : List (List ℕ)) (x : List ℕ) → among (learn ns x) x ≡ true
learn-has ns x = among-learn ns x x ∙ or_right (among ns x) (bytes_eq x x) ((bytes_eq-Decides x x).1 refl)

module _ {A : Type 0} where
  mutual
    -- names are never lost
    pub names-keep : (ns : List (List ℕ)) (e : Expr A) → Within ns (names_after ns e)
    names-keep ns (Expr.int a w) = within-itself
    names-keep ns (Expr.nil a) = within-itself
    names-keep ns (Expr.self a) = within-itself
    names-keep ns (Expr.string a w) = within-itself
    names-keep ns (Expr.local a x) = learn-keeps ns x
    names-keep ns (Expr.set_local a x e) = within_both (learn-keeps ns x) (names-keep (learn ns x) e)
    names-keep ns (Expr.field a x) = within-itself
    names-keep ns (Expr.set_field a x e) = names-keep ns e
    names-keep ns (Expr.if_then_else a c d e) =
        within_both (names-keep ns c)
        (within_both (names-keep (names_after ns c) d) (names-keep (names_after (names_after ns c) d) e))
    names-keep ns (Expr.while_do a c d) = within_both (names-keep ns c) (names-keep (names_after ns c) d)
    names-keep ns (Expr.seq a c d) = within_both (names-keep ns c) (names-keep (names_after ns c) d)
    names-keep ns (Expr.new a C xs) = args-keep ns xs
    names-keep ns (Expr.instance_of a e C) = names-keep ns e
    names-keep ns (Expr.invoke a e x xs) = within_both (names-keep ns e) (args-keep (names_after ns e) xs)

    pub args-keep : (ns : List (List ℕ)) (xs : Args A) → Within ns (names_after_args ns xs)
    args-keep ns Args.none = within-itself
    args-keep ns (Args.more xs e) = within_both (args-keep ns xs) (names-keep (names_after_args ns xs) e)

  abbrev mutual
    -- every local of the expression is among the names
    pub Named : List (List ℕ) → Expr A → Type 0
    Named ns (Expr.int a w) = Unit {0}
    Named ns (Expr.nil a) = Unit {0}
    Named ns (Expr.self a) = Unit {0}
    Named ns (Expr.string a w) = Unit {0}
    Named ns (Expr.local a x) = among ns x ≡ true
    Named ns (Expr.set_local a x e) = (among ns x ≡ true) × Named ns e
    Named ns (Expr.field a x) = Unit {0}
    Named ns (Expr.set_field a x e) = Named ns e
    Named ns (Expr.if_then_else a c d e) = Named ns c × Named ns d × Named ns e
    Named ns (Expr.while_do a c d) = Named ns c × Named ns d
    Named ns (Expr.seq a c d) = Named ns c × Named ns d
    Named ns (Expr.new a C xs) = NamedArgs ns xs
    Named ns (Expr.instance_of a e C) = Named ns e
    Named ns (Expr.invoke a e x xs) = Named ns e × NamedArgs ns xs

    pub NamedArgs : List (List ℕ) → Args A → Type 0
    NamedArgs ns Args.none = Unit {0}
    NamedArgs ns (Args.more xs e) = NamedArgs ns xs × Named ns e

  mutual
    -- and among more names
    pub named-within : {ns ms : List (List ℕ)} (e : Expr A) → Within ns ms → Named ns e → Named ms e
    named-within (Expr.int a w) p h = tt
    named-within (Expr.nil a) p h = tt
    named-within (Expr.self a) p h = tt
    named-within (Expr.string a w) p h = tt
    named-within (Expr.local a x) p h = p.has x h
    named-within (Expr.set_local a x e) p h = (p.has x h.0, named-within e p h.1)
    named-within (Expr.field a x) p h = tt
    named-within (Expr.set_field a x e) p h = named-within e p h
    named-within (Expr.if_then_else a c d e) p h = (named-within c p h.0, named-within d p h.1, named-within e p h.2)
    named-within (Expr.while_do a c d) p h = (named-within c p h.0, named-within d p h.1)
    named-within (Expr.seq a c d) p h = (named-within c p h.0, named-within d p h.1)
    named-within (Expr.new a C xs) p h = args-within xs p h
    named-within (Expr.instance_of a e C) p h = named-within e p h
    named-within (Expr.invoke a e x xs) p h = (named-within e p h.0, args-within xs p h.1)

    args-within : {ns ms : List (List ℕ)} (xs : Args A) → Within ns ms → NamedArgs ns xs → NamedArgs ms xs
    args-within Args.none p h = tt
    args-within (Args.more xs e) p h = (args-within xs p h.0, named-within e p h.1)

  mutual
    -- the names of an expression are all its locals
    pub all_named : (ns : List (List ℕ)) (e : Expr A) → Named (names_after ns e) e
    all_named ns (Expr.int a w) = tt
    all_named ns (Expr.nil a) = tt
    all_named ns (Expr.self a) = tt
    all_named ns (Expr.string a w) = tt
    all_named ns (Expr.local a x) = learn-has ns x
    all_named ns (Expr.set_local a x e) = ((names-keep (learn ns x) e).has x (learn-has ns x), all_named (learn ns x) e)
    all_named ns (Expr.field a x) = tt
    all_named ns (Expr.set_field a x e) = all_named ns e
    all_named ns (Expr.if_then_else a c d e) =
        let later = names-keep (names_after (names_after ns c) d) e in (
          named-within c (within_both (names-keep (names_after ns c) d) later) (all_named ns c),
          named-within d later (all_named (names_after ns c) d),
          all_named (names_after (names_after ns c) d) e,
        )
    all_named ns (Expr.while_do a c d) =
        (named-within c (names-keep (names_after ns c) d) (all_named ns c), all_named (names_after ns c) d)
    all_named ns (Expr.seq a c d) =
        (named-within c (names-keep (names_after ns c) d) (all_named ns c), all_named (names_after ns c) d)
    all_named ns (Expr.new a C xs) = all-args-named ns xs
    all_named ns (Expr.instance_of a e C) = all_named ns e
    all_named ns (Expr.invoke a e x xs) =
        (named-within e (args-keep (names_after ns e) xs) (all_named ns e), all-args-named (names_after ns e) xs)

    all-args-named : (ns : List (List ℕ)) (xs : Args A) → NamedArgs (names_after_args ns xs) xs
    all-args-named ns Args.none = tt
    all-args-named ns (Args.more xs e) =
        (args-within xs (names-keep (names_after_args ns xs) e) (all-args-named ns xs), all_named (names_after_args ns xs) e)

-- the names grow alike from two lists of n and m names that have the same ones
record Alike (n m : ℕ) (ns ms : List (List ℕ)) : Type 0 where
  same : (x : List ℕ) → among ns x ≡ among ms x
  grown : length ns + m ≡ length ms + n

learned-alike : {n m : ℕ} {ns ms : List (List ℕ)} (x : List ℕ) (b c : Bool) → b ≡ c → Alike n m ns ms → length (cond b ns (ns ++ (x ∷ []))) + m ≡ length (cond c ms (ms ++ (x ∷ []))) + n
learned-alike x true true e h = h.grown
learned-alike x true false e h = let z : ◌≡◌ {A = ℕ} 0 1 = cc in absurd (omega arith)
learned-alike x false true e h = let z : ◌≡◌ {A = ℕ} 0 1 = cc in absurd (omega arith)
learned-alike {ns = ns} {ms = ms} x false false e h = simp length-append (omega (arith, h.grown))

learn-alike : {n m : ℕ} {ns ms : List (List ℕ)} (x : List ℕ) → Alike n m ns ms → Alike n m (learn ns x) (learn ms x)
learn-alike {ns = ns} {ms = ms} x h = record {
  same = λ y. among-learn ns x y ∙ ap (λ b. b || bytes_eq x y) (h.same y) ∙ sym (among-learn ms x y);
  grown = learned-alike x (known ns x) (known ms x) (h.same x) h;
}

module _ {A : Type 0} {n m : ℕ} where
  mutual
    names-alike : {ns ms : List (List ℕ)} (e : Expr A) → Alike n m ns ms → Alike n m (names_after ns e) (names_after ms e)
    names-alike (Expr.int a w) h = h
    names-alike (Expr.nil a) h = h
    names-alike (Expr.self a) h = h
    names-alike (Expr.string a w) h = h
    names-alike (Expr.local a x) h = learn-alike x h
    names-alike (Expr.set_local a x e) h = names-alike e (learn-alike x h)
    names-alike (Expr.field a x) h = h
    names-alike (Expr.set_field a x e) h = names-alike e h
    names-alike (Expr.if_then_else a c d e) h = names-alike e (names-alike d (names-alike c h))
    names-alike (Expr.while_do a c d) h = names-alike d (names-alike c h)
    names-alike (Expr.seq a c d) h = names-alike d (names-alike c h)
    names-alike (Expr.new a C xs) h = args-alike xs h
    names-alike (Expr.instance_of a e C) h = names-alike e h
    names-alike (Expr.invoke a e x xs) h = args-alike xs (names-alike e h)

    args-alike : {ns ms : List (List ℕ)} (xs : Args A) → Alike n m ns ms → Alike n m (names_after_args ns xs) (names_after_args ms xs)
    args-alike Args.none h = h
    args-alike (Args.more xs e) h = names-alike e (args-alike xs h)

among-learn-all : (ns ps : List (List ℕ)) (x : List ℕ) → among (learn_all ns ps) x ≡ (among ns x || among ps x)
among-learn-all ns [] x = sym (or-false (among ns x))
among-learn-all ns (p ∷ ps) x =
    among-learn-all (learn ns p) ps x
    ∙ ap (λ b. b || among ps x) (among-learn ns p x)
    ∙ or_assoc (among ns x) (bytes_eq p x) (among ps x)

-- beside its parameters a body has as many slots as its distinct names beside the distinct parameters
pub slots-count : {A : Type 0} (ps : List (List ℕ)) (e : Expr A) → length (slots ps e) + length (learn_all [] ps) ≡ length (names_of ps e) + length ps
slots-count ps e =
    (names-alike e (record { same = λ x. sym (among-learn-all [] ps x); grown = omega arith })).grown

-- a body has at most 16 slots beside its parameters
pub slots-few : {A : Type 0} {ps : List (List ℕ)} {e : Expr A} → BodyWithin ps e → length (slots ps e) ≤ name_limit + length ps
slots-few {ps = ps} {e = e} h = omega (arith, h.names, slots-count ps e)

module _ {A : Type 0} (ns : List (List ℕ)) where
  mutual
    -- five registers for each level of depth, and four more, suffice
    pub fits-from : (e : Expr A) (t : ℕ) → Named ns e → Spelled e → most_arguments e ≤ argument_limit → t + 5 * depth e + 4 < registers_per_frame → Fit ns e t
    fits-from (Expr.int a w) t n s m r = omega arith
    fits-from (Expr.nil a) t n s m r = omega arith
    fits-from (Expr.self a) t n s m r = omega arith
    fits-from (Expr.string a w) t n s m r = omega arith
    fits-from (Expr.local a x) t n s m r = (n, omega arith)
    fits-from (Expr.set_local a x e) t n s m r = (n.0, fits-from e t n.1 s m (omega arith))
    fits-from (Expr.field a x) t n s m r = (field-name x s, omega arith)
    fits-from (Expr.set_field a x e) t n s m r = (field-name x s.0, omega arith, fits-from e t n s.1 m (omega arith))
    fits-from (Expr.if_then_else a c d e) t n s m r = (
      omega arith,
      fits-from c t n.0 s.0 (omega arith) (omega arith),
      fits-from d t n.1 s.1 (omega arith) (omega arith),
      fits-from e t n.2 s.2 (omega arith) (omega arith),
    )
    fits-from (Expr.while_do a c d) t n s m r = (
      omega arith,
      fits-from c t n.0 s.0 (omega arith) (omega arith),
      fits-from d t n.1 s.1 (omega arith) (omega arith),
    )
    fits-from (Expr.seq a c d) t n s m r =
        (fits-from c t n.0 s.0 (omega arith) (omega arith), fits-from d t n.1 s.1 (omega arith) (omega arith))
    fits-from (Expr.new a C xs) t n s m r = (omega arith, args-fit-from xs (t + 2) n s (omega arith) (omega arith))
    fits-from (Expr.instance_of a e C) t n s m r = (omega arith, fits-from e t n s m (omega arith))
    fits-from (Expr.invoke a e x xs) t n s m r = (
      method-name x s.0.0,
      omega arith,
      fits-from e (suc t) n.0 s.1 (omega arith) (omega arith),
      args-fit-from xs (t + 2) n.1 s.2 (omega arith) (omega arith),
    )

    pub args-fit-from : (xs : Args A) (t : ℕ) → NamedArgs ns xs → SpelledArgs xs → most_within xs ≤ argument_limit → t + count xs + 5 * arg_depth xs + 3 < registers_per_frame → Fits ns xs t
    args-fit-from Args.none t n s m r = tt
    args-fit-from (Args.more xs e) t n s m r =
        (args-fit-from xs t n.0 s.0 (omega arith) (omega arith), fits-from e (t + count xs) n.1 s.1 (omega arith) (omega arith))

-- every body within the limits, spelled in the language's words, fits a frame
pub fitted : {A : Type 0} {ps : List (List ℕ)} {e : Expr A} → BodyWithin ps e → Spelled e → Fit (slots ps e) e (free (slots ps e))
fitted {ps = ps} {e = e} h s =
    fits-from (slots ps e) e (free (slots ps e)) (all_named ps e) s h.arguments (omega (arith, slots-few h, h.deep, h.parameters))

-- a method's body fits
abbrev pub MethodFits : {A : Type 0} → Method A → Type 0
MethodFits m = Fit (slots m.parameters m.body) m.body (free (slots m.parameters m.body))

methods-fitted : {A : Type 0} (ms : List (Method A)) → MethodsWithin ms → AllByRecursion SpelledMethod ms → AllByRecursion MethodFits ms
methods-fitted [] h s = tt
methods-fitted (m ∷ ms) h s = (fitted h.0 s.0.1, methods-fitted ms h.1 s.1)

-- every added method's body fits
pub all-methods-fitted : {A : Type 0} (P : Classes A) → ClassesWithin P → AllByRecursion SpelledClass P → AllByRecursion MethodFits (all_methods P)
all-methods-fitted [] h s = tt
all-methods-fitted (K ∷ P) h s =
    All-append MethodFits (all_methods P) K.methods (all-methods-fitted P h.1 s.1) (methods-fitted K.methods h.0 s.0)

all-nth : {X : Type 0} (Q : X → Type 0) (xs : List X) (i : ℕ) {x : X} → AllByRecursion Q xs → slice_get xs i ≡ Some x → Q x
all-nth Q [] i h e = let z : ◌≡◌ {A = ℕ} 0 1 = cc in absurd (omega arith)
all-nth Q (y ∷ xs) zero h e = let q : y ≡ _ = cc in subst Q q h.0
all-nth Q (y ∷ xs) (suc i) h e = all-nth Q xs i h.1 e

-- the body of the method with number i fits
pub method-fitted : {A : Type 0} (P : Classes A) (i : ℕ) (m : Method A) → ClassesWithin P → AllByRecursion SpelledClass P → slice_get (all_methods P) i ≡ Some m → MethodFits m
method-fitted P i m h s e = all-nth MethodFits (all_methods P) i (all-methods-fitted P h s) e
