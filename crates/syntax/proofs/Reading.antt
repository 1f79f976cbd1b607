-- The machine's way over the tokens of a text, part by part.
use Rattle.std.proofs.Common.{◌≡◌, ℕ, ◌+◌, ◌≤◌, List, [], ◌∷◌, map, length, drop, Ok, Err, Result, Some, sym, refl, ap, ◌∙◌, arith}
use Rattle.std.specs.Result.{IsErrAnd}
use mathlib.Core.Option.{some}
use Rattle.std.proofs.lemmas.List.{drop-drop}
use Rattle.lexer.specs.Token.{Terminal, identifier}
use Rattle.lexer.specs.Tokens.{Placed}
use Rattle.grammar.specs.Tree.{Expr, Args, Bare, BareArgs}
use Rattle.grammar.specs.Grammar.{item}
use Rattle.grammar.specs.Machine.{Bracket, Context, room, State, Outcome, step, run}
use Rattle.grammar.specs.Following.{First, NoName}
use Rattle.grammar.specs.Notes.{note_of, forget, first, annotate, annotate_args}
use Rattle.grammar.proofs.Steps.{goes}
use Rattle.grammar.proofs.Notes.{own_first}
use Rattle.syntax.specs.Left.{left, terms, places}
use Rattle.syntax.specs.declared.sight.Sort.{Sort}
use Rattle.syntax.specs.declared.sight.Sight.{Sight}
use Rattle.syntax.specs.Sight.{sort_of, head_sort, shown}
use Rattle.syntax.specs.Parsing.{Ahead, Reads, Refused}

-- the token t stands next behind p, at the place f, and ends at q
pub record Sees (text : List ℕ) (p : ℕ) (t : Terminal) (f q : ℕ) : Type 0 where
  pub is : left text p ≡ record { token = t; place = f } ∷ left text q

-- a token of the sort that it was found to be
pub shown-as : (text : List ℕ) (p : ℕ) (x : Sight) {r s : Sort} → left text p ≡ shown text r x.from x.to → r ≡ s → left text p ≡ shown text s x.from x.to
shown-as text p x e i = e ∙ ap (λ z. shown text z x.from x.to) i

-- a refusal that `?` hands on
pub handed : {T E : Type 0} {e : E} (r : Result T E) → IsErrAnd r (λ y. y ≡ e) → r ≡ Err e
handed (Err y) h = ap Err h
handed (Ok x) h = absurd h

pub roomy : (k : Context) → item ≤ room k
roomy Context.whole = omega arith
roomy (Context.body c m ps) = omega arith
roomy (Context.value t k) = omega arith
roomy (Context.rest e k) = omega arith
roomy (Context.within b k) = omega arith

pub never : {A : Type 0} → ◌≡◌ {A = ℕ} 0 1 → A
never z = absurd (omega arith)

-- a token of another sort is not t
pub not_first : (r : List Terminal) (t : Terminal) → (head_sort r ≡ Some (sort_of t) → ⊥) → First t r → ⊥
not_first [] t h f = f
not_first (u ∷ r) t h f = h (ap (λ z. Some (sort_of z)) f)

pub no_name : (r : List Terminal) → (head_sort r ≡ Some (sort_of (identifier [])) → ⊥) → NoName r
no_name r h x f = not_first r (identifier x) h f

module _ {text : List ℕ} where
  pub terms-see : {p f q : ℕ} {t : Terminal} → Sees text p t f q → terms text p ≡ t ∷ terms text q
  terms-see s = ap (map (λ (x : Placed). x.token)) s.is

  pub places-see : {p f q : ℕ} {t : Terminal} → Sees text p t f q → places text p ≡ f ∷ places text q
  places-see s = ap (map (λ (x : Placed). x.place)) s.is

  pub ahead_none : {p : ℕ} → Ahead text p p
  ahead_none = record { past = 0; is = refl }

  pub ahead-one : {p f q : ℕ} {t : Terminal} → Sees text p t f q → Ahead text p q
  ahead-one s = record { past = 1; is = sym (ap (drop 1) s.is) }

  pub ahead-then : {p q r : ℕ} → Ahead text p q → Ahead text q r → Ahead text p r
  ahead-then {p} a b = record { past = a.past + b.past; is = b.is ∙ ap (drop b.past) a.is ∙ drop-drop b.past a.past (left text p) }

  -- the first note of what was read is its own
  pub first-noted : {l p q : ℕ} {e : Expr ℕ} → Reads l text p q e → first 0 (places text p) ≡ note_of e
  first-noted {l} {p} {q} {e} r = sym (own_first 0 (forget e) (places text p)) ∙ ap (λ z. note_of z.tree) r.noted

  -- the notes of what was read, where a token follows
  pub noted-then : {l p q r f : ℕ} {t : Terminal} {e : Expr ℕ} → Reads l text p q e → Sees text q t f r → annotate 0 (forget e) (places text p) ≡ record { tree = e; rest = f ∷ places text r }
  noted-then {e = e} a s = a.noted ∙ ap (λ z. record { tree = e; rest = z }) (places-see s)

-- from p on, where an expression is wanted, the machine comes to a state at q
pub record To (text : List ℕ) (p q : ℕ) (f : Context → State) : Type 0 where
  pub ahead : Ahead text p q
  pub way : (k : Context) → run (terms text p) (State.want k) ≡ run (terms text q) (f k)

pub here : {text : List ℕ} {p : ℕ} → To text p p (λ k. State.want k)
here = record { ahead = ahead_none; way = λ k. refl }

pub on : {text : List ℕ} {p q r : ℕ} {f : Context → State} (g : Context → State) {t : Terminal} {a : ℕ} → To text p q f → Sees text q t a r → ((k : Context) → step (f k) t ≡ some (g k)) → To text p r g
on {text} {p} {q} {r} {f} g {t} x s h =
    record { ahead = ahead-then x.ahead (ahead-one s); way = λ k. x.way k ∙ ap (λ z. run z (f k)) (terms-see s) ∙ goes (f k) (g k) t (terms text r) (h k) }

-- an expression of a level that fits anywhere
pub over : {text : List ℕ} {p q l : ℕ} {e : Expr ℕ} → l ≤ item → Reads l text p q e → To text p q (λ k. State.have (forget e) k)
over h r = record { ahead = r.ahead; way = λ k. let i = roomy k in r.way k (omega arith) }

-- a sequence in brackets
pub inside : {text : List ℕ} {p q r : ℕ} {e : Expr ℕ} (b : Bracket) → To text p q (λ k. State.want (Context.within b k)) → Reads 4 text q r e → To text p r (λ k. State.have (forget e) (Context.within b k))
inside b a s = record { ahead = ahead-then a.ahead s.ahead; way = λ k. a.way k ∙ s.way (Context.within b k) (omega arith) }

-- a sequence in brackets is refused
pub lost : {text : List ℕ} {p q e : ℕ} (b : Bracket) → To text p q (λ k. State.want (Context.within b k)) → Refused 4 text q e → (l : ℕ) → Refused l text p e
lost b a s l =
    record { from = s.from; ahead = ahead-then a.ahead s.ahead; place = s.place; way = λ k i. a.way k ∙ s.way (Context.within b k) (omega arith) }

-- refused at q itself
pub ends : {text : List ℕ} {p q e : ℕ} {f : Context → State} → To text p q f → ((k : Context) → run (terms text q) (f k) ≡ Outcome.refused (terms text q)) → e ≡ first (length text) (places text q) → (l : ℕ) → Refused l text p e
ends {q = q} a h i l = record { from = q; ahead = a.ahead; place = i; way = λ k j. a.way k ∙ h k }

pub lower : {text : List ℕ} {p e l : ℕ} (m : ℕ) → l ≤ m → Refused l text p e → Refused m text p e
lower m h r = record { from = r.from; ahead = r.ahead; place = r.place; way = λ k i. r.way k (omega arith) }

-- notes, form by form
module _ (f : ℕ) where
  pub note-if : (a b c : Bare) (x y z : Expr ℕ) (f1 f2 f3 : ℕ) (n1 n2 n3 n4 : List ℕ)
      → annotate 0 a n1 ≡ record { tree = x; rest = f1 ∷ n2 } → annotate 0 b n2 ≡ record { tree = y; rest = f2 ∷ n3 } → annotate 0 c n3 ≡ record { tree = z; rest = f3 ∷ n4 }
      → annotate 0 (Expr.if_then_else tt a b c) (f ∷ n1) ≡ record { tree = Expr.if_then_else f x y z; rest = n4 }
  note-if a b c x y z f1 f2 f3 n1 n2 n3 n4 p q r = rw (p, q, r) refl

  pub note-while : (a b : Bare) (x y : Expr ℕ) (f1 f2 : ℕ) (n1 n2 n3 : List ℕ)
      → annotate 0 a n1 ≡ record { tree = x; rest = f1 ∷ n2 } → annotate 0 b n2 ≡ record { tree = y; rest = f2 ∷ n3 }
      → annotate 0 (Expr.while_do tt a b) (f ∷ n1) ≡ record { tree = Expr.while_do f x y; rest = n3 }
  note-while a b x y f1 f2 n1 n2 n3 p q = rw (p, q) refl

  pub note-seq : (a b : Bare) (x y : Expr ℕ) (f1 : ℕ) (n1 n2 n3 : List ℕ)
      → first 0 n1 ≡ f → annotate 0 a n1 ≡ record { tree = x; rest = f1 ∷ n2 } → annotate 0 b n2 ≡ record { tree = y; rest = n3 }
      → annotate 0 (Expr.seq tt a b) n1 ≡ record { tree = Expr.seq f x y; rest = n3 }
  note-seq a b x y f1 n1 n2 n3 e p q = rw (p, q, e) refl

  pub note-instance_of : (a : Bare) (x : Expr ℕ) (c : List ℕ) (f1 f2 : ℕ) (n1 n2 : List ℕ)
      → first 0 n1 ≡ f → annotate 0 a n1 ≡ record { tree = x; rest = f1 ∷ f2 ∷ n2 }
      → annotate 0 (Expr.instance_of tt a c) n1 ≡ record { tree = Expr.instance_of f x c; rest = n2 }
  note-instance_of a x c f1 f2 n1 n2 e p = rw (p, e) refl

  pub note-invoke : (a : Bare) (x : Expr ℕ) (m : List ℕ) (us : BareArgs) (xs : Args ℕ) (f1 f2 f3 f4 : ℕ) (n1 n2 n3 : List ℕ)
      → first 0 n1 ≡ f → annotate 0 a n1 ≡ record { tree = x; rest = f1 ∷ f2 ∷ f3 ∷ n2 } → annotate_args 0 us n2 ≡ record { tree = xs; rest = f4 ∷ n3 }
      → annotate 0 (Expr.invoke tt a m us) n1 ≡ record { tree = Expr.invoke f x m xs; rest = n3 }
  note-invoke a x m us xs f1 f2 f3 f4 n1 n2 n3 e p q = rw (p, q, e) refl

  pub note-new : (c : List ℕ) (us : BareArgs) (xs : Args ℕ) (f1 f2 f3 : ℕ) (n1 n2 : List ℕ)
      → annotate_args 0 us n1 ≡ record { tree = xs; rest = f3 ∷ n2 }
      → annotate 0 (Expr.new tt c us) (f ∷ f1 ∷ f2 ∷ n1) ≡ record { tree = Expr.new f c xs; rest = n2 }
  note-new c us xs f1 f2 f3 n1 n2 p = rw p refl

  pub note-set_local : (c : List ℕ) (a : Bare) (x : Expr ℕ) (f1 : ℕ) (n1 n2 : List ℕ)
      → annotate 0 a n1 ≡ record { tree = x; rest = n2 } → annotate 0 (Expr.set_local tt c a) (f ∷ f1 ∷ n1) ≡ record { tree = Expr.set_local f c x; rest = n2 }
  note-set_local c a x f1 n1 n2 p = rw p refl

  pub note-set_field : (c : List ℕ) (a : Bare) (x : Expr ℕ) (f1 : ℕ) (n1 n2 : List ℕ)
      → annotate 0 a n1 ≡ record { tree = x; rest = n2 } → annotate 0 (Expr.set_field tt c a) (f ∷ f1 ∷ n1) ≡ record { tree = Expr.set_field f c x; rest = n2 }
  note-set_field c a x f1 n1 n2 p = rw p refl

-- the first argument, and one more
pub note-first : (a : Bare) (x : Expr ℕ) (n1 n2 : List ℕ)
    → annotate 0 a n1 ≡ record { tree = x; rest = n2 } → annotate_args 0 (Args.more Args.none a) n1 ≡ record { tree = Args.more Args.none x; rest = n2 }
note-first a x n1 n2 p = rw p refl

pub note-more : (us : BareArgs) (a b : Bare) (xs : Args ℕ) (x y : Expr ℕ) (f1 : ℕ) (n1 n2 n3 : List ℕ)
    → annotate_args 0 (Args.more us a) n1 ≡ record { tree = Args.more xs x; rest = f1 ∷ n2 } → annotate 0 b n2 ≡ record { tree = y; rest = n3 }
    → annotate_args 0 (Args.more (Args.more us a) b) n1 ≡ record { tree = Args.more (Args.more xs x) y; rest = n3 }
note-more us a b xs x y f1 n1 n2 n3 p q =
    ap (λ z. let v = annotate 0 b (drop 1 z.rest) in record { tree = Args.more z.tree v.tree; rest = v.rest }) p ∙ rw q refl
