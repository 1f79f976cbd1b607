-- What is measured of each form, from what was measured of its parts.
use Rattle.std.proofs.Common.{◌≡◌, ℕ, ℤ, pos, Some, None, Option, MatchOption, is_some, unwrap_or, suc, ◌≤◌, Bool, true, ◌&&◌, leb, List, length, Decides, sym, refl, ap, ◌∙◌, subst, arith}
use Rattle.std.proofs.lemmas.List.{length-map, length-take}
use Rattle.std.proofs.lemmas.Bool.{leb-true, le-leb}
use Rattle.std.proofs.lemmas.Bool.Decides.{Decides-like, Decides-and}
use Rattle.stack.specs.declared.Stack.{Stack}
use Rattle.stack.specs.Held.{held}
use Rattle.text.specs.declared.span.Span.{Span}
use Rattle.text.specs.Memory.{bytes_of}
use Rattle.grammar.specs.Tree.{Expr, Args}
use Rattle.grammar.specs.Measure.{depth, count, most_arguments, longest_string, Fits, value_of, IntegersFit, names_of, BodyWithin}
use Rattle.grammar.specs.Limits.{argument_limit}
use Rattle.syntax.specs.declared.read.Size.{Size}
use Rattle.syntax.specs.Sizes.{around, side_by_side, of_list, Small, Sized, SizedWithin, SizedList, Knows, lone}

-- expressions of one token
pub plain-sized : {s : Size} (e : Expr ℕ) → s ≡ record { depth = 1; small = true } → depth e ≡ 1 → IntegersFit e → longest_string e ≤ 255 → most_arguments e ≤ 4 → Sized s e
plain-sized e h d i l a = subst (λ z. Sized z e) (sym h) (record { deep = omega (arith, d); small = (λ _. record { integers = i; strings = l; arguments = a }, λ _. refl) })

pub integer-sized : {s : Size} {b : Bool} (f : ℕ) (w : List ℕ) → s ≡ record { depth = 1; small = b } → Decides b (Fits w) → Sized s (Expr.int f w)
integer-sized {b = b} f w h d =
    subst (λ z. Sized z (Expr.int f w)) (sym h)
    (record { deep = omega arith; small = Decides-like b (λ x. record { integers = x; strings = omega arith; arguments = omega arith }) (λ x. x.integers) d })

pub string-sized : {s : Size} {b : Bool} (f : ℕ) (w : List ℕ) → s ≡ record { depth = 1; small = b } → Decides b (length w ≤ 255) → Sized s (Expr.string f w)
string-sized {b = b} f w h d =
    subst (λ z. Sized z (Expr.string f w)) (sym h)
    (record { deep = omega arith; small = Decides-like b (λ x. record { integers = tt; strings = x; arguments = omega arith }) (λ x. x.strings) d })

-- an expression of one part
pub around-sized : {s t : Size} (e u : Expr ℕ) → t ≡ around s → Sized s e → depth u ≡ suc (depth e) → (Small e → Small u) → (Small u → Small e) → Sized t u
around-sized {s} e u h z d f g =
    let q = z.deep in
    subst (λ x. Sized x u) (sym h) (record { deep = omega (arith, d); small = Decides-like s.small f g z.small })

-- an integer, by its value if that is one of 32 bits
pub integer-read : (w : List ℕ) (o : Option ℤ) → MatchOption o (Fits w → ⊥) (λ v. Fits w × (v ≡ value_of w)) → Decides (is_some o) (Fits w) × (Fits w → unwrap_or o (pos 0) ≡ value_of w)
integer-read w None h = (((λ e. let z : ◌≡◌ {A = ℕ} 0 1 = cc in absurd (omega arith)), λ f. absurd (h f)), λ f. absurd (h f))
integer-read w (Some v) h = (((λ e. h.0), λ f. refl), λ f. h.1)

-- expressions of several parts
pub seq-sized : {s t u : Size} (f : ℕ) (a b : Expr ℕ) → u ≡ side_by_side s t → Sized s a → Sized t b → Sized u (Expr.seq f a b)
seq-sized {s} {t} f a b h x y =
    let p = x.deep in
    let q = y.deep in
    subst (λ z. Sized z (Expr.seq f a b)) (sym h)
    (record {
      deep = omega arith;
      small = Decides-like (s.small && t.small)
          (λ k. let v = k.0 in let w = k.1 in record { integers = (v.integers, w.integers); strings = omega (arith, v.strings, w.strings); arguments = omega (arith, v.arguments, w.arguments) })
          (λ k. (
            record { integers = k.integers.0; strings = omega (arith, k.strings); arguments = omega (arith, k.arguments) },
            record { integers = k.integers.1; strings = omega (arith, k.strings); arguments = omega (arith, k.arguments) },
          ))
          (Decides-and s.small t.small x.small y.small);
    })

pub while-sized : {s t u : Size} (f : ℕ) (a b : Expr ℕ) → u ≡ around (side_by_side s t) → Sized s a → Sized t b → Sized u (Expr.while_do f a b)
while-sized f a b h x y =
    let z = seq-sized f a b refl x y in
    around-sized (Expr.seq f a b) (Expr.while_do f a b) h z refl
    (λ k. record { integers = k.integers; strings = k.strings; arguments = k.arguments })
    (λ k. record { integers = k.integers; strings = k.strings; arguments = k.arguments })

pub if-sized : {r s t u : Size} (f : ℕ) (a b c : Expr ℕ) → u ≡ around (side_by_side r (side_by_side s t)) → Sized r a → Sized s b → Sized t c → Sized u (Expr.if_then_else f a b c)
if-sized f a b c h x y z =
    let w = seq-sized f a (Expr.seq f b c) refl x (seq-sized f b c refl y z) in
    around-sized (Expr.seq f a (Expr.seq f b c)) (Expr.if_then_else f a b c) h w refl
    (λ k. let i = k.integers in record { integers = (i.0, i.1.0, i.1.1); strings = k.strings; arguments = k.arguments })
    (λ k. let i = k.integers in record { integers = (i.0, (i.1, i.2)); strings = k.strings; arguments = k.arguments })

-- a list of arguments
pub none-sized : {s t : Size} → s ≡ record { depth = 0; small = true } → t ≡ of_list 0 s → SizedList t Args.none
none-sized h g =
    subst (λ z. SizedList z Args.none) (sym (g ∙ ap (of_list 0) h))
    (record { deep = omega arith; small = (λ _. record { few = omega arith; each = record { integers = tt; strings = omega arith; arguments = omega arith } }, λ _. refl) })

pub nothing-sized : {s : Size} → s ≡ record { depth = 0; small = true } → SizedWithin s Args.none
nothing-sized h =
    subst (λ z. SizedWithin z Args.none) (sym h)
    (record { deep = omega arith; small = (λ _. record { integers = tt; strings = omega arith; arguments = omega arith }, λ _. refl) })

pub more-sized : {s t u : Size} (es : Args ℕ) (e : Expr ℕ) → u ≡ side_by_side s t → SizedWithin s es → Sized t e → SizedWithin u (Args.more es e)
more-sized {s} {t} es e h x y =
    let p = x.deep in
    let q = y.deep in
    subst (λ z. SizedWithin z (Args.more es e)) (sym h)
    (record {
      deep = omega arith;
      small = Decides-like (s.small && t.small)
          (λ k. let v = k.0 in let w = k.1 in record { integers = (v.integers, w.integers); strings = omega (arith, v.strings, w.strings); arguments = omega (arith, v.arguments, w.arguments) })
          (λ k. (
            record { integers = k.integers.0; strings = omega (arith, k.strings); arguments = omega (arith, k.arguments) },
            record { integers = k.integers.1; strings = omega (arith, k.strings); arguments = omega (arith, k.arguments) },
          ))
          (Decides-and s.small t.small x.small y.small);
    })

pub list-sized : {s t : Size} (n : ℕ) (es : Args ℕ) → t ≡ of_list n s → n ≡ count es → SizedWithin s es → SizedList t es
list-sized {s} n es h c x =
    subst (λ z. SizedList z es) (sym (h ∙ ap (λ z. of_list z s) c))
    (record {
      deep = x.deep;
      small = Decides-like (leb (count es) argument_limit && s.small) (λ k. record { few = k.0; each = k.1 }) (λ k. (k.few, k.each))
          (Decides-and (leb (count es) argument_limit) s.small (leb-true (count es) argument_limit, le-leb (count es) argument_limit) x.small);
    })

pub new-sized : {s t : Size} (f : ℕ) (c : List ℕ) (es : Args ℕ) → t ≡ around s → SizedList s es → Sized t (Expr.new f c es)
new-sized {s} f c es h x =
    let p = x.deep in
    subst (λ z. Sized z (Expr.new f c es)) (sym h)
    (record {
      deep = omega arith;
      small = Decides-like s.small (λ k. let v = k.each in record { integers = v.integers; strings = v.strings; arguments = omega (arith, k.few, v.arguments) })
          (λ k. record { few = omega (arith, k.arguments); each = record { integers = k.integers; strings = k.strings; arguments = omega (arith, k.arguments) } }) x.small;
    })

pub invoke-sized : {r s t : Size} (f : ℕ) (e : Expr ℕ) (m : List ℕ) (es : Args ℕ) → t ≡ around (side_by_side r s) → Sized r e → SizedList s es → Sized t (Expr.invoke f e m es)
invoke-sized {r} {s} f e m es h x y =
    let p = x.deep in
    let q = y.deep in
    subst (λ z. Sized z (Expr.invoke f e m es)) (sym h)
    (record {
      deep = omega arith;
      small = Decides-like (r.small && s.small)
          (λ k. let u = k.0 in let l = k.1 in let v = l.each in record { integers = (u.integers, v.integers); strings = omega (arith, u.strings, v.strings); arguments = omega (arith, u.arguments, l.few, v.arguments) })
          (λ k. (
            record { integers = k.integers.0; strings = omega (arith, k.strings); arguments = omega (arith, k.arguments) },
            record { few = omega (arith, k.arguments); each = record { integers = k.integers.1; strings = omega (arith, k.strings); arguments = omega (arith, k.arguments) } },
          ))
          (Decides-and r.small s.small x.small y.small);
    })

-- a body, by what was measured of it
pub body-within : {text : List ℕ} {us : Stack Span} {s : Size} {c n : ℕ} (w : Bool) (ps : List (List ℕ)) (e : Expr ℕ) → c ≡ length ps → Sized s e → Knows text us (names_of ps e) → n ≡ length (held us)
    → Decides w ((c ≤ 4) × (s.small ≡ true) × (s.depth ≤ 16) × (n ≤ 16)) → Decides w (BodyWithin ps e)
body-within {text} {us} {s} w ps e h z k count =
    let d = z.deep in
    let many = ap length k.words in
    let m = length-map (held us) (bytes_of (lone text)) in
    let l = length-take 17 (names_of ps e) in
    Decides-like w
    (λ t.
    let small = z.small.0 t.1 in
    let p = t.0 in
    let q = t.2 in
    let r = t.3 in
    record { integers = small.integers; strings = small.strings; parameters = omega arith; arguments = small.arguments; names = omega arith; deep = omega arith })
    (λ b.
    let p = b.parameters in
    let q = b.names in
    let r = b.deep in
    (omega arith, z.small.1 (record { integers = b.integers; strings = b.strings; arguments = b.arguments }), omega arith, omega arith))
