-- A tree that was read from a text has names that are spelled as the language's tokens. Assumes nothing.
use Rattle.std.proofs.Common.{◌≡◌, ℕ, suc, Bool, true, false, List, [], ◌∷◌, map, codes, sym, refl}
use Rattle.std.specs.List.{AllByRecursion}
use Rattle.std.specs.Str.{bytes_eq}
use Rattle.std.proofs.ByRecursion.{All-append}
use Rattle.std.proofs.lemmas.Slice.Eq.{bytes_eq-Decides}
use Rattle.std.proofs.lemmas.Bool.{cond_both, or_parts}
use Rattle.lexer.specs.Token.{Terminal}
use Rattle.lexer.specs.Tokens.{Placed, Tokens, tokens}
use Rattle.lexer.specs.Law.{Formed, Reads, here, gap, item}
use Rattle.lexer.proofs.Reading as lexer
use Rattle.grammar.specs.Tree.{Expr, Args, Method, Text, BareText}
use Rattle.grammar.specs.Grammar.{Kind, toks, arg_toks, lead_toks, name_toks, methods_toks, tokens_of}
use Rattle.grammar.specs.Machine.{Outcome, parse}
use Rattle.grammar.proofs.Whole as grammar
use Rattle.rube.specs.declared.builtin.Builtin.{Builtin}
use Rattle.rube.specs.Builtin as builtin
use Rattle.rube.specs.Builtin.{class_name}
use Rattle.rube.specs.Classes.{among, Named, Classes, rows_of, own, names, inherited, visible, added_methods}
use Rattle.correctness.specs.Fitting.{MethodName}
use Rattle.correctness.specs.Spelled.{Spelled, SpelledArgs, SpelledMethod, SpelledClass, SpelledText}
use Rattle.correctness.proofs.Fitted.{method-name}

-- behind the tokens of parameters
formed-names : (xs : List (List ℕ)) (r : List Terminal) → AllByRecursion Formed (name_toks xs r) → AllByRecursion Formed r
formed-names [] r h = h
formed-names (x ∷ []) r h = h.1
formed-names (x ∷ y ∷ ys) r h = formed-names (y ∷ ys) r h.1.1

module _ {A : Type 0} where
  mutual
    -- formed tokens are those of spelled names
    pub formed-spelled : (e : Expr A) (r : List Terminal) → AllByRecursion Formed (toks e r) → Spelled e × AllByRecursion Formed r
    formed-spelled (Expr.int a w) r h = (tt, h.1)
    formed-spelled (Expr.nil a) r h = (tt, h.1)
    formed-spelled (Expr.self a) r h = (tt, h.1)
    formed-spelled (Expr.string a w) r h = (tt, h.1)
    formed-spelled (Expr.local a x) r h = (tt, h.1)
    formed-spelled (Expr.set_local a x e) r h = formed-spelled e r h.1.1
    formed-spelled (Expr.field a x) r h = h
    formed-spelled (Expr.set_field a x e) r h = let p = formed-spelled e r h.1.1 in ((h.0, p.0), p.1)
    formed-spelled (Expr.if_then_else a c d e) r h =
        let p = formed-spelled c _ h.1 in
        let q = formed-spelled d _ p.1.1 in
        let s = formed-spelled e _ q.1.1 in
        ((p.0, q.0, s.0), s.1.1)
    formed-spelled (Expr.while_do a c d) r h =
        let p = formed-spelled c _ h.1 in let q = formed-spelled d _ p.1.1 in ((p.0, q.0), q.1.1)
    formed-spelled (Expr.seq a c d) r h =
        let p = formed-spelled c _ h in let q = formed-spelled d r p.1.1 in ((p.0, q.0), q.1)
    formed-spelled (Expr.new a C xs) r h = let p = formed-args xs _ h.1.1.1 in (p.0, p.1.1)
    formed-spelled (Expr.instance_of a e C) r h = let p = formed-spelled e _ h in (p.0, p.1.1.1)
    formed-spelled (Expr.invoke a e x xs) r h =
        let p = formed-spelled e _ h in
        let q = formed-args xs _ p.1.1.1.1 in
        ((p.1.1.0, p.0, q.0), q.1.1)

    pub formed-args : (xs : Args A) (r : List Terminal) → AllByRecursion Formed (arg_toks xs r) → SpelledArgs xs × AllByRecursion Formed r
    formed-args Args.none r h = (tt, h)
    formed-args (Args.more xs e) r h =
        let p = formed-leads xs _ h in let q = formed-spelled e r p.1 in ((p.0, q.0), q.1)

    pub formed-leads : (xs : Args A) (r : List Terminal) → AllByRecursion Formed (lead_toks xs r) → SpelledArgs xs × AllByRecursion Formed r
    formed-leads Args.none r h = (tt, h)
    formed-leads (Args.more xs e) r h =
        let p = formed-leads xs _ h in let q = formed-spelled e _ p.1 in ((p.0, q.0), q.1.1)

  -- of the methods of a class
  pub formed-methods : (ms : List (Method A)) (r : List Terminal) → AllByRecursion Formed (methods_toks ms r) → AllByRecursion SpelledMethod ms × AllByRecursion Formed r
  formed-methods [] r h = (tt, h)
  formed-methods (m ∷ ms) r h =
      let p = formed-spelled m.body _ (formed-names m.parameters _ h.1.1.1).1 in
      let q = formed-methods ms r p.1.1 in
      (((h.1.0, p.0), q.0), q.1)

  -- of a whole text
  pub formed-text-spelled : (t : Text A) → AllByRecursion Formed (tokens_of t) → SpelledText t
  formed-text-spelled (Text.rule e) h = (formed-spelled e [] h).0
  formed-text-spelled (Text.class K) h = (formed-methods K.methods _ h.1.1.1.1.1).0

-- the tokens that a text reads as are formed
pub reads-formed : {at : ℕ} {bytes : List ℕ} {ps : List Placed} {rest : List ℕ} → Reads at bytes ps rest → AllByRecursion Formed (map (λ p. p.token) ps)
reads-formed here = tt
reads-formed (gap b h) = reads-formed h
reads-formed (item b h) = (b.formed, reads-formed h)

-- a text that was taken apart into tokens and read as a tree has spelled names
pub read-spelled : (κ : Kind) (text : List ℕ) (ps : List Placed) (t : BareText) → tokens text ≡ Tokens.all ps → parse κ (map (λ p. p.token) ps) ≡ Outcome.accepted t → SpelledText t
read-spelled κ text ps t e a =
    formed-text-spelled t (rw ((grammar.law κ).sound (map (λ p. p.token) ps) t a).1 (reads-formed ((lexer.law).written text ps e)))

-- a method whose name is no key of ours
abbrev pub MethodNamed : {A : Type 0} → Named A → Type 0
MethodNamed m = MethodName m.name

other-bytes : (k n : List ℕ) (b : Bool) → bytes_eq k n ≡ b → bytes_eq n k ≡ false → b ≡ false
other-bytes k n true e h = let q = (bytes_eq-Decides n k).1 (sym ((bytes_eq-Decides k n).0 e)) in cc
other-bytes k n false e h = refl

-- names among which that key is not
names-named : (ns : List (List ℕ)) → among ns (codes "#name") ≡ false → AllByRecursion MethodName ns
names-named [] h = tt
names-named (n ∷ ns) h =
    let p = or_parts (bytes_eq n (codes "#name")) (among ns (codes "#name")) h in
    (other-bytes (codes "#name") n (bytes_eq (codes "#name") n) refl p.0, names-named ns p.1)

rows_named : (A : Type 0) (C : List ℕ) (bs : List Builtin) (ns : List (List ℕ)) → AllByRecursion MethodName ns → AllByRecursion (MethodNamed {A = A}) (rows_of C bs ns)
rows_named A C [] ns h = tt
rows_named A C (b ∷ bs) [] h = tt
rows_named A C (b ∷ bs) (n ∷ ns) h =
    cond_both (bytes_eq (class_name b.class) C) _ _ (AllByRecursion MethodNamed) (λ e. (h.0, rows_named A C bs ns h.1)) (λ e. rows_named A C bs ns h.1)

module _ {A : Type 0} where
  own-named : (i : ℕ) (ms : List (Method A)) → AllByRecursion SpelledMethod ms → AllByRecursion MethodNamed (own i ms)
  own-named i [] h = tt
  own-named i (m ∷ ms) h = (method-name m.name h.0.0.0, own-named (suc i) ms h.1)

  inherited-named : (mine ms : List (Named A)) → AllByRecursion MethodNamed ms → AllByRecursion MethodNamed (inherited mine ms)
  inherited-named mine [] h = tt
  inherited-named mine (m ∷ ms) h =
      cond_both (names mine m.name) _ _ (AllByRecursion MethodNamed) (λ e. inherited-named mine ms h.1) (λ e. (h.0, inherited-named mine ms h.1))

  -- no method that a class finds has the name of a key of ours
  pub visible-named : (P : Classes A) (C : List ℕ) → AllByRecursion SpelledClass P → AllByRecursion MethodNamed (visible P C)
  unfolding visible
  visible-named [] C h = rows_named A C builtin.table builtin.names (names-named builtin.names refl)
  visible-named (K ∷ P) C h =
      let mine = own (added_methods P) K.methods in
      let older = visible P K.parent in
      cond_both (bytes_eq K.name C) _ _ (AllByRecursion MethodNamed)
      (λ e. All-append MethodNamed mine (inherited mine older) (own-named (added_methods P) K.methods h.0) (inherited-named mine older (visible-named P K.parent h.1)))
      (λ e. visible-named P C h.1)
