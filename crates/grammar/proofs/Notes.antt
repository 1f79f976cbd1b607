-- Notes taken from a text's tokens change no tree, and there is one for each token.
use Rattle.std.proofs.Common.{◌≡◌, ℕ, ◌+◌, List, [], ◌∷◌, length, drop, refl, ap, ◌∙◌, ap₂, arith, drop-drop}
use Rattle.lexer.specs.Token.{Terminal, identifier, keyword, symbol}
use Rattle.lexer.specs.declared.token.Keyword.TheVariants as word
use Rattle.lexer.specs.declared.token.Symbol.TheVariants as sign
use Rattle.grammar.specs.Tree.{Expr, Args, Text, Bare, BareArgs, BareMethod, BareText}
use Rattle.grammar.specs.Grammar.{toks, arg_toks, lead_toks, name_toks, methods_toks, tokens_of}
use Rattle.grammar.specs.Notes.{note_of, forget, forget_args, forget_methods, forget_text, first, annotate, annotate_args, annotate_lead, past_names, annotate_methods, annotate_text, NotesLaw}

ap₃ : {B C D E : Type 0} (f : B → C → D → E) {x y : B} {u v : C} {s t : D} → x ≡ y → u ≡ v → s ≡ t → f x u s ≡ f y v t
ap₃ f p q r = λ i. f (p i) (q i) (r i)

module _ {A : Type 0} (d : A) where
  mutual
    pub forget-annotate : (e : Bare) (ns : List A) → forget (annotate d e ns).tree ≡ e
    forget-annotate (Expr.int a w) ns = refl
    forget-annotate (Expr.nil a) ns = refl
    forget-annotate (Expr.self a) ns = refl
    forget-annotate (Expr.string a w) ns = refl
    forget-annotate (Expr.local a x) ns = refl
    forget-annotate (Expr.set_local a x e) ns = ap (Expr.set_local tt x) (forget-annotate e _)
    forget-annotate (Expr.field a x) ns = refl
    forget-annotate (Expr.set_field a x e) ns = ap (Expr.set_field tt x) (forget-annotate e _)
    forget-annotate (Expr.if_then_else a b c e) ns =
        ap₃ (Expr.if_then_else tt) (forget-annotate b _) (forget-annotate c _) (forget-annotate e _)
    forget-annotate (Expr.while_do a b c) ns = ap₂ (Expr.while_do tt) (forget-annotate b _) (forget-annotate c _)
    forget-annotate (Expr.seq a b c) ns = ap₂ (Expr.seq tt) (forget-annotate b _) (forget-annotate c _)
    forget-annotate (Expr.new a c xs) ns = ap (Expr.new tt c) (forget-args xs _)
    forget-annotate (Expr.instance_of a e c) ns = ap (λ z. Expr.instance_of tt z c) (forget-annotate e _)
    forget-annotate (Expr.invoke a e m xs) ns = ap₂ (λ z ys. Expr.invoke tt z m ys) (forget-annotate e _) (forget-args xs _)

    pub forget-args : (xs : BareArgs) (ns : List A) → forget_args (annotate_args d xs ns).tree ≡ xs
    forget-args Args.none ns = refl
    forget-args (Args.more xs e) ns = ap₂ Args.more (forget-lead xs _) (forget-annotate e _)

    pub forget-lead : (xs : BareArgs) (ns : List A) → forget_args (annotate_lead d xs ns).tree ≡ xs
    forget-lead Args.none ns = refl
    forget-lead (Args.more xs e) ns = ap₂ Args.more (forget-lead xs _) (forget-annotate e _)

  forget-methods : (ms : List BareMethod) (ns : List A) → forget_methods (annotate_methods d ms ns).tree ≡ ms
  forget-methods [] ns = refl
  forget-methods (m ∷ ms) ns =
      ap₂ (λ z ns. record { name = m.name; parameters = m.parameters; body = z } ∷ ns) (forget-annotate m.body _) (forget-methods ms _)

  pub forget-text : (t : BareText) (ns : List A) → forget_text (annotate_text d t ns).tree ≡ t
  forget-text (Text.rule e) ns = ap Text.rule (forget-annotate e ns)
  forget-text (Text.class c) ns = ap (λ z. Text.class (record { name = c.name; parent = c.parent; methods = z })) (forget-methods c.methods _)

  pub own_first : (e : Bare) (ns : List A) → note_of (annotate d e ns).tree ≡ first d ns
  own_first (Expr.int a w) ns = refl
  own_first (Expr.nil a) ns = refl
  own_first (Expr.self a) ns = refl
  own_first (Expr.string a w) ns = refl
  own_first (Expr.local a x) ns = refl
  own_first (Expr.set_local a x e) ns = refl
  own_first (Expr.field a x) ns = refl
  own_first (Expr.set_field a x e) ns = refl
  own_first (Expr.if_then_else a b c e) ns = refl
  own_first (Expr.while_do a b c) ns = refl
  own_first (Expr.seq a b c) ns = refl
  own_first (Expr.new a c xs) ns = refl
  own_first (Expr.instance_of a e c) ns = refl
  own_first (Expr.invoke a e m xs) ns = refl

-- how many tokens a tree has
abbrev mutual
  width : Bare → ℕ
  width (Expr.int a w) = 1
  width (Expr.nil a) = 1
  width (Expr.self a) = 1
  width (Expr.string a w) = 1
  width (Expr.local a x) = 1
  width (Expr.set_local a x e) = 2 + width e
  width (Expr.field a x) = 1
  width (Expr.set_field a x e) = 2 + width e
  width (Expr.if_then_else a b c e) = 4 + (width b + (width c + width e))
  width (Expr.while_do a b c) = 3 + (width b + width c)
  width (Expr.seq a b c) = 1 + (width b + width c)
  width (Expr.new a c xs) = 4 + arg_width xs
  width (Expr.instance_of a e c) = 2 + width e
  width (Expr.invoke a e m xs) = 4 + (width e + arg_width xs)

  arg_width : BareArgs → ℕ
  arg_width Args.none = 0
  arg_width (Args.more xs e) = lead_width xs + width e

  lead_width : BareArgs → ℕ
  lead_width Args.none = 0
  lead_width (Args.more xs e) = 1 + (lead_width xs + width e)

abbrev name_width : List (List ℕ) → ℕ
name_width [] = 0
name_width (x ∷ []) = 1
name_width (x ∷ y ∷ ys) = 2 + name_width (y ∷ ys)

abbrev methods_width : List BareMethod → ℕ
methods_width [] = 0
methods_width (m ∷ ms) = 5 + (name_width m.parameters + (width m.body + methods_width ms))

mutual
  width_is : (e : Bare) (r : List Terminal) → length (toks e r) ≡ width e + length r
  width_is (Expr.int a w) r = omega arith
  width_is (Expr.nil a) r = omega arith
  width_is (Expr.self a) r = omega arith
  width_is (Expr.string a w) r = omega arith
  width_is (Expr.local a x) r = omega arith
  width_is (Expr.set_local a x e) r = omega (arith, width_is e r)
  width_is (Expr.field a x) r = omega arith
  width_is (Expr.set_field a x e) r = omega (arith, width_is e r)
  width_is (Expr.if_then_else a b c e) r =
      omega (arith, width_is b (keyword word.Then ∷ toks c (keyword word.Else ∷ toks e (keyword word.End ∷ r))), width_is c (keyword word.Else ∷ toks e (keyword word.End ∷ r)), width_is e (keyword word.End ∷ r))
  width_is (Expr.while_do a b c) r = omega (arith, width_is b (keyword word.Do ∷ toks c (keyword word.End ∷ r)), width_is c (keyword word.End ∷ r))
  width_is (Expr.seq a b c) r = omega (arith, width_is b (symbol sign.Semicolon ∷ toks c r), width_is c r)
  width_is (Expr.new a c xs) r = omega (arith, arg_width-is xs (symbol sign.CloseParen ∷ r))
  width_is (Expr.instance_of a e c) r = omega (arith, width_is e (keyword word.InstanceOf ∷ identifier c ∷ r))
  width_is (Expr.invoke a e m xs) r =
      omega (arith, width_is e (symbol sign.Dot ∷ identifier m ∷ symbol sign.OpenParen ∷ arg_toks xs (symbol sign.CloseParen ∷ r)), arg_width-is xs (symbol sign.CloseParen ∷ r))

  arg_width-is : (xs : BareArgs) (r : List Terminal) → length (arg_toks xs r) ≡ arg_width xs + length r
  arg_width-is Args.none r = omega arith
  arg_width-is (Args.more xs e) r = omega (arith, lead_width-is xs (toks e r), width_is e r)

  lead_width-is : (xs : BareArgs) (r : List Terminal) → length (lead_toks xs r) ≡ lead_width xs + length r
  lead_width-is Args.none r = omega arith
  lead_width-is (Args.more xs e) r = omega (arith, lead_width-is xs (toks e (symbol sign.Comma ∷ r)), width_is e (symbol sign.Comma ∷ r))

name_width-is : (ps : List (List ℕ)) (r : List Terminal) → length (name_toks ps r) ≡ name_width ps + length r
name_width-is [] r = omega arith
name_width-is (x ∷ []) r = omega arith
name_width-is (x ∷ y ∷ ys) r = omega (arith, name_width-is (y ∷ ys) r)

methods_width-is : (ms : List BareMethod) (r : List Terminal) → length (methods_toks ms r) ≡ methods_width ms + length r
methods_width-is [] r = omega arith
methods_width-is (m ∷ ms) r =
    omega (arith, name_width-is m.parameters (symbol sign.CloseParen ∷ toks m.body (keyword word.End ∷ methods_toks ms r)), width_is m.body (keyword word.End ∷ methods_toks ms r), methods_width-is ms r)

-- xs are the notes behind the first n of ns
record After {A : Type 0} (ns : List A) (n : ℕ) (xs : List A) : Type 0 where
  is : xs ≡ drop n ns

module _ {A : Type 0} (d : A) where
  skip : (m : ℕ) {ns xs : List A} {n : ℕ} → After ns n xs → After ns (n + m) (drop m xs)
  skip m {ns} {xs} {n} h = record { is = ap (drop m) h.is ∙ drop-drop m n ns }

  to : {ns xs : List A} {n : ℕ} (m : ℕ) → n ≡ m → After ns n xs → After ns m xs
  to {ns} m q h = record { is = h.is ∙ ap (λ z. drop z ns) q }

  mutual
    rest_of : (e : Bare) {ns xs : List A} {n : ℕ} → After ns n xs → After ns (n + width e) (annotate d e xs).rest
    rest_of (Expr.int a w) h = skip 1 h
    rest_of (Expr.nil a) h = skip 1 h
    rest_of (Expr.self a) h = skip 1 h
    rest_of (Expr.string a w) h = skip 1 h
    rest_of (Expr.local a x) h = skip 1 h
    rest_of (Expr.set_local a x e) h = to _ (omega arith) (rest_of e (skip 2 h))
    rest_of (Expr.field a x) h = skip 1 h
    rest_of (Expr.set_field a x e) h = to _ (omega arith) (rest_of e (skip 2 h))
    rest_of (Expr.if_then_else a b c e) h = to _ (omega arith) (skip 1 (rest_of e (skip 1 (rest_of c (skip 1 (rest_of b (skip 1 h)))))))
    rest_of (Expr.while_do a b c) h = to _ (omega arith) (skip 1 (rest_of c (skip 1 (rest_of b (skip 1 h)))))
    rest_of (Expr.seq a b c) h = to _ (omega arith) (rest_of c (skip 1 (rest_of b h)))
    rest_of (Expr.new a c xs) h = to _ (omega arith) (skip 1 (rest-of-args xs (skip 3 h)))
    rest_of (Expr.instance_of a e c) h = to _ (omega arith) (skip 2 (rest_of e h))
    rest_of (Expr.invoke a e m xs) h = to _ (omega arith) (skip 1 (rest-of-args xs (skip 3 (rest_of e h))))

    rest-of-args : (xs : BareArgs) {ns ys : List A} {n : ℕ} → After ns n ys → After ns (n + arg_width xs) (annotate_args d xs ys).rest
    rest-of-args Args.none h = to _ (omega arith) h
    rest-of-args (Args.more xs e) h = to _ (omega arith) (rest_of e (rest-of-lead xs h))

    rest-of-lead : (xs : BareArgs) {ns ys : List A} {n : ℕ} → After ns n ys → After ns (n + lead_width xs) (annotate_lead d xs ys).rest
    rest-of-lead Args.none h = to _ (omega arith) h
    rest-of-lead (Args.more xs e) h = to _ (omega arith) (skip 1 (rest_of e (rest-of-lead xs h)))

  past-names : (ps : List (List ℕ)) {ns xs : List A} {n : ℕ} → After ns n xs → After ns (n + name_width ps) (past_names ps xs)
  past-names [] h = to _ (omega arith) h
  past-names (x ∷ []) h = skip 1 h
  past-names (x ∷ y ∷ ys) h = to _ (omega arith) (past-names (y ∷ ys) (skip 2 h))

  rest-of-methods : (ms : List BareMethod) {ns xs : List A} {n : ℕ} → After ns n xs → After ns (n + methods_width ms) (annotate_methods d ms xs).rest
  rest-of-methods [] h = to _ (omega arith) h
  rest-of-methods (m ∷ ms) h =
      to _ (omega arith) (rest-of-methods ms (skip 1 (rest_of m.body (skip 1 (past-names m.parameters (skip 3 h))))))

  begin : (ns : List A) → After ns 0 ns
  begin ns = record { is = refl }

  pub rest-of-text : (t : BareText) (ns : List A) → (annotate_text d t ns).rest ≡ drop (length (tokens_of t)) ns
  rest-of-text (Text.rule e) ns = (to (length (toks e [])) (omega (arith, width_is e [])) (rest_of e (begin ns))).is
  rest-of-text (Text.class c) ns =
      (to (length (tokens_of (Text.class c))) (omega (arith, methods_width-is c.methods (keyword word.End ∷ []))) (skip 1 (rest-of-methods c.methods (skip 5 (begin ns))))).is

pub notes-law : NotesLaw
notes-law = record {
  forgotten = λ d t ns. forget-text d t ns;
  one-for-each-token = λ d t ns. rest-of-text d t ns;
  own-is-first = λ d e ns. own_first d e ns;
}
