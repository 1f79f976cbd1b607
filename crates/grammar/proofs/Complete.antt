-- A tree's tokens, wherever a tree is wanted, lead to the state that has the tree.
use Rattle.std.proofs.Common.{◌≡◌, ℕ, ◌≤◌, List, [], ◌∷◌, ◌++◌, sym, refl, ap, ◌∙◌, subst, append_assoc, append-nil, arith}
use Rattle.lexer.specs.Token.{Terminal, identifier, keyword, symbol}
use Rattle.lexer.specs.declared.token.Keyword.TheVariants as word
use Rattle.lexer.specs.declared.token.Symbol.TheVariants as sign
use Rattle.grammar.specs.Tree.{Expr, Args, Text, Bare, BareArgs, BareMethod, BareClass, BareText}
use Rattle.grammar.specs.Grammar.{Kind, toks, arg_toks, lead_toks, name_toks, method_toks, methods_toks, tokens_of, level, Formed, FormedArgs, FormedMethods, FormedText, test, item, sequence}
use Rattle.grammar.specs.Role.{Role, Joint, role}
use Rattle.grammar.specs.Machine.{Target, Callee, call, Bracket, Context, room, Stage, State, Outcome, run, parse}
use Rattle.grammar.specs.Following.{First, Calm, Last}
use Rattle.grammar.proofs.Tokens.{joint_token}
use Rattle.grammar.proofs.Reading.{roomy}
use Rattle.grammar.proofs.Steps.{value-ends, rest-ends, argument-begins, semicolon-goes, dot-goes, instance_of-goes}

-- what may stand behind the whole of the expression
abbrev Free : Bare → List Terminal → Type 0
Free (Expr.int a w) r = Unit {0}
Free (Expr.nil a) r = Unit {0}
Free (Expr.self a) r = Unit {0}
Free (Expr.string a w) r = Unit {0}
Free (Expr.local a x) r = Unit {0}
Free (Expr.set_local a x e) r = Calm e r × Free e r
Free (Expr.field a x) r = Unit {0}
Free (Expr.set_field a x e) r = Calm e r × Free e r
Free (Expr.if_then_else a c d e) r = Unit {0}
Free (Expr.while_do a c d) r = Unit {0}
Free (Expr.seq a c d) r = Calm d r × Last r × Free d r
Free (Expr.new a c xs) r = Unit {0}
Free (Expr.instance_of a e c) r = Unit {0}
Free (Expr.invoke a e m xs) r = Unit {0}

abbrev IfJoint : (Joint → Type 0) → Role → Type 0
IfJoint P (Role.name x) = Unit {0}
IfJoint P (Role.leaf l) = Unit {0}
IfJoint P (Role.opening o) = Unit {0}
IfJoint P (Role.joint j) = P j
IfJoint P (Role.stop s) = Unit {0}

-- if the tokens begin with a joint, it has P
abbrev AtJoint : (Joint → Type 0) → List Terminal → Type 0
AtJoint P [] = Unit {0}
AtJoint P (t ∷ r) = IfJoint P (role t)

at_first : (P : Joint → Type 0) (j : Joint) (r : List Terminal) → AtJoint P r → First (joint_token j) r → P j
at_first P j [] h q = absurd q
at_first P j (t ∷ r) h q = joint-has j (subst (λ z. IfJoint P (role z)) q h)
  where
    joint-has : (i : Joint) → IfJoint P (role (joint_token i)) → P i
    joint-has Joint.semicolon g = g
    joint-has Joint.equals g = g
    joint-has Joint.dot g = g
    joint-has Joint.instance_of g = g

-- at most a semicolon
abbrev Semicolon : Joint → Type 0
Semicolon Joint.semicolon = Unit {0}
Semicolon Joint.equals = ⊥
Semicolon Joint.dot = ⊥
Semicolon Joint.instance_of = ⊥

abbrev Never : Joint → Type 0
Never j = ⊥

calm-item : (e : Bare) (r : List Terminal) → AtJoint Semicolon r → Calm e r
calm-item e r h = record {
  equals = λ q. absurd (at_first Semicolon Joint.equals r h q);
  dot = λ q. absurd (at_first Semicolon Joint.dot r h q);
  instance_of = λ q. absurd (at_first Semicolon Joint.instance_of r h q);
}

calm-alone : (e : Bare) (r : List Terminal) → AtJoint Never r → Calm e r
calm-alone e r h = record {
  equals = λ q. absurd (at_first Never Joint.equals r h q);
  dot = λ q. absurd (at_first Never Joint.dot r h q);
  instance_of = λ q. absurd (at_first Never Joint.instance_of r h q);
}

-- an item's followers are free where no joint but a semicolon is
free-item : (e : Bare) (r : List Terminal) → level e ≤ item → Formed e → AtJoint Semicolon r → Free e r
free-item (Expr.int a w) r l fe h = tt
free-item (Expr.nil a) r l fe h = tt
free-item (Expr.self a) r l fe h = tt
free-item (Expr.string a w) r l fe h = tt
free-item (Expr.local a x) r l fe h = tt
free-item (Expr.set_local a x e) r l fe h = (calm-item e r h, free-item e r fe.0 fe.1 h)
free-item (Expr.field a x) r l fe h = tt
free-item (Expr.set_field a x e) r l fe h = (calm-item e r h, free-item e r fe.0 fe.1 h)
free-item (Expr.if_then_else a c d e) r l fe h = tt
free-item (Expr.while_do a c d) r l fe h = tt
free-item (Expr.seq a c d) r l fe h = absurd (omega arith)
free-item (Expr.new a c xs) r l fe h = tt
free-item (Expr.instance_of a e c) r l fe h = tt
free-item (Expr.invoke a e m xs) r l fe h = tt

-- every expression is free where no joint follows
free-alone : (e : Bare) (r : List Terminal) → AtJoint Never r → Free e r
free-alone (Expr.int a w) r h = tt
free-alone (Expr.nil a) r h = tt
free-alone (Expr.self a) r h = tt
free-alone (Expr.string a w) r h = tt
free-alone (Expr.local a x) r h = tt
free-alone (Expr.set_local a x e) r h = (calm-alone e r h, free-alone e r h)
free-alone (Expr.field a x) r h = tt
free-alone (Expr.set_field a x e) r h = (calm-alone e r h, free-alone e r h)
free-alone (Expr.if_then_else a c d e) r h = tt
free-alone (Expr.while_do a c d) r h = tt
free-alone (Expr.seq a c d) r h = (calm-alone d r h, at_first Never Joint.semicolon r h, free-alone d r h)
free-alone (Expr.new a c xs) r h = tt
free-alone (Expr.instance_of a e c) r h = tt
free-alone (Expr.invoke a e m xs) r h = tt

-- a test is free always
free-test : (e : Bare) (r : List Terminal) → level e ≤ test → Free e r
free-test (Expr.int a w) r l = tt
free-test (Expr.nil a) r l = tt
free-test (Expr.self a) r l = tt
free-test (Expr.string a w) r l = tt
free-test (Expr.local a x) r l = tt
free-test (Expr.set_local a x e) r l = absurd (omega arith)
free-test (Expr.field a x) r l = tt
free-test (Expr.set_field a x e) r l = absurd (omega arith)
free-test (Expr.if_then_else a c d e) r l = tt
free-test (Expr.while_do a c d) r l = tt
free-test (Expr.seq a c d) r l = absurd (omega arith)
free-test (Expr.new a c xs) r l = tt
free-test (Expr.instance_of a e c) r l = tt
free-test (Expr.invoke a e m xs) r l = tt

pub level-top : (e : Bare) → level e ≤ sequence
level-top (Expr.int a w) = omega arith
level-top (Expr.nil a) = omega arith
level-top (Expr.self a) = omega arith
level-top (Expr.string a w) = omega arith
level-top (Expr.local a x) = omega arith
level-top (Expr.set_local a x e) = omega arith
level-top (Expr.field a x) = omega arith
level-top (Expr.set_field a x e) = omega arith
level-top (Expr.if_then_else a c d e) = omega arith
level-top (Expr.while_do a c d) = omega arith
level-top (Expr.seq a c d) = omega arith
level-top (Expr.new a c xs) = omega arith
level-top (Expr.instance_of a e c) = omega arith
level-top (Expr.invoke a e m xs) = omega arith

-- no expression begins with `)`
unclosed : (e : Bare) (r : List Terminal) → First (symbol sign.CloseParen) (toks e r) → ⊥
unclosed (Expr.int a w) r = λ q. let z : ◌≡◌ {A = ℕ} 0 1 = cc in omega arith
unclosed (Expr.nil a) r = λ q. let z : ◌≡◌ {A = ℕ} 0 1 = cc in omega arith
unclosed (Expr.self a) r = λ q. let z : ◌≡◌ {A = ℕ} 0 1 = cc in omega arith
unclosed (Expr.string a w) r = λ q. let z : ◌≡◌ {A = ℕ} 0 1 = cc in omega arith
unclosed (Expr.local a x) r = λ q. let z : ◌≡◌ {A = ℕ} 0 1 = cc in omega arith
unclosed (Expr.set_local a x e) r = λ q. let z : ◌≡◌ {A = ℕ} 0 1 = cc in omega arith
unclosed (Expr.field a x) r = λ q. let z : ◌≡◌ {A = ℕ} 0 1 = cc in omega arith
unclosed (Expr.set_field a x e) r = λ q. let z : ◌≡◌ {A = ℕ} 0 1 = cc in omega arith
unclosed (Expr.if_then_else a c d e) r = λ q. let z : ◌≡◌ {A = ℕ} 0 1 = cc in omega arith
unclosed (Expr.while_do a c d) r = λ q. let z : ◌≡◌ {A = ℕ} 0 1 = cc in omega arith
unclosed (Expr.seq a c d) r = unclosed c _
unclosed (Expr.new a c xs) r = λ q. let z : ◌≡◌ {A = ℕ} 0 1 = cc in omega arith
unclosed (Expr.instance_of a e c) r = unclosed e _
unclosed (Expr.invoke a e m xs) r = unclosed e _

mutual
  unfolding run

  -- an expression's tokens lead from where it is wanted to where it was read
  pub complete : (e : Bare) → Formed e → (k : Context) → level e ≤ room k → (r : List Terminal) → Free e r → run (toks e r) (State.want k) ≡ run r (State.have e k)
  complete (Expr.int a w) fe k h r q = refl
  complete (Expr.nil a) fe k h r q = refl
  complete (Expr.self a) fe k h r q = refl
  complete (Expr.string a w) fe k h r q = refl
  complete (Expr.local a x) fe k h r q = refl
  complete (Expr.set_local a x e) fe k h r q = complete e fe.1 (Context.value (Target.local x) k) fe.0 r q.1 ∙ value-ends (Target.local x) e k r q.0
  complete (Expr.field a x) fe k h r q = refl
  complete (Expr.set_field a x e) fe k h r q = complete e fe.1 (Context.value (Target.field x) k) fe.0 r q.1 ∙ value-ends (Target.field x) e k r q.0
  complete (Expr.if_then_else a c d e) fe k h r q =
      complete c fe.0 (Context.within Bracket.condition k) (level-top c) (keyword word.Then ∷ toks d (keyword word.Else ∷ toks e (keyword word.End ∷ r))) (free-alone c _ tt)
      ∙ complete d fe.1 (Context.within (Bracket.consequent c) k) (level-top d) (keyword word.Else ∷ toks e (keyword word.End ∷ r)) (free-alone d _ tt)
      ∙ complete e fe.2 (Context.within (Bracket.alternative c d) k) (level-top e) (keyword word.End ∷ r) (free-alone e _ tt)
  complete (Expr.while_do a c d) fe k h r q =
      complete c fe.0 (Context.within Bracket.guard k) (level-top c) (keyword word.Do ∷ toks d (keyword word.End ∷ r)) (free-alone c _ tt)
      ∙ complete d fe.1 (Context.within (Bracket.loop c) k) (level-top d) (keyword word.End ∷ r) (free-alone d _ tt)
  complete (Expr.seq a c d) fe k h r q =
      complete c fe.1 k (omega (arith, fe.0)) (symbol sign.Semicolon ∷ toks d r) (free-item c _ fe.0 fe.1 tt)
      ∙ semicolon-goes c k (toks d r) h
      ∙ complete d fe.2 (Context.rest c k) (level-top d) r q.2
      ∙ rest-ends c d k r q.0 q.1
  complete (Expr.new a c xs) fe k h r q = argued xs fe (Callee.new c) k r
  complete (Expr.instance_of a e c) fe k h r q =
      let g = roomy k in
      complete e fe.1 k (omega (arith, fe.0)) (keyword word.InstanceOf ∷ identifier c ∷ r) (free-test e _ fe.0)
      ∙ instance_of-goes e k (identifier c ∷ r) fe.0
  complete (Expr.invoke a e m xs) fe k h r q =
      let g = roomy k in
      complete e fe.1 k (omega (arith, fe.0)) (symbol sign.Dot ∷ identifier m ∷ symbol sign.OpenParen ∷ arg_toks xs (symbol sign.CloseParen ∷ r)) (free-test e _ (omega (arith, fe.0)))
      ∙ dot-goes e k (identifier m ∷ symbol sign.OpenParen ∷ arg_toks xs (symbol sign.CloseParen ∷ r)) fe.0
      ∙ argued xs fe.2 (Callee.method e m) k r

  -- so do those of arguments
  argued : (xs : BareArgs) → FormedArgs xs → (f : Callee) (k : Context) (r : List Terminal) → run (arg_toks xs (symbol sign.CloseParen ∷ r)) (State.opened f k) ≡ run r (State.have (call f xs) k)
  argued Args.none fx f k r = refl
  argued (Args.more xs e) fx f k r =
      leading xs fx.0 f k (toks e (symbol sign.CloseParen ∷ r)) (unclosed e _)
      ∙ complete e fx.1 (Context.within (Bracket.argument f xs) k) (level-top e) (symbol sign.CloseParen ∷ r) (free-alone e _ tt)

  leading : (xs : BareArgs) → FormedArgs xs → (f : Callee) (k : Context) (r : List Terminal) → (First (symbol sign.CloseParen) r → ⊥) → run (lead_toks xs r) (State.opened f k) ≡ run r (State.want (Context.within (Bracket.argument f xs) k))
  leading Args.none fx f k r h = argument-begins f k r h
  leading (Args.more xs e) fx f k r h =
      leading xs fx.0 f k (toks e (symbol sign.Comma ∷ r)) (unclosed e _)
      ∙ complete e fx.1 (Context.within (Bracket.argument f xs) k) (level-top e) (symbol sign.Comma ∷ r) (free-alone e _ tt)

module _ (c : BareClass) (m : List ℕ) where
  parameters-go : (p : List ℕ) (ps before : List (List ℕ)) (r : List Terminal) → run (name_toks (p ∷ ps) (symbol sign.CloseParen ∷ r)) (State.define (Stage.comma c m before)) ≡ run r (State.want (Context.body c m (before ++ (p ∷ ps))))
  unfolding run
  parameters-go p [] before r = refl
  parameters-go p (q ∷ ps) before r = parameters-go q ps (before ++ (p ∷ [])) r ∙ ap (λ z. run r (State.want (Context.body c m z))) (append_assoc before (p ∷ []) (q ∷ ps))

  parameters-complete : (ps : List (List ℕ)) (r : List Terminal) → run (name_toks ps (symbol sign.CloseParen ∷ r)) (State.define (Stage.open' c m)) ≡ run r (State.want (Context.body c m ps))
  unfolding run
  parameters-complete [] r = refl
  parameters-complete (p ∷ []) r = refl
  parameters-complete (p ∷ q ∷ ps) r = parameters-go q ps (p ∷ []) r

-- a class with these methods in place of its own
abbrev with_methods : BareClass → List BareMethod → BareClass
with_methods c ms = record { name = c.name; parent = c.parent; methods = ms }

method-complete : (m : BareMethod) → Formed m.body → (c : BareClass) (r : List Terminal) → run (method_toks m r) (State.define (Stage.members c)) ≡ run r (State.define (Stage.members (with_methods c (c.methods ++ (m ∷ [])))))
unfolding run
method-complete m fm c r =
    parameters-complete c m.name m.parameters (toks m.body (keyword word.End ∷ r))
    ∙ complete m.body fm (Context.body c m.name m.parameters) (level-top m.body) (keyword word.End ∷ r) (free-alone m.body _ tt)

methods-complete : (ms before : List BareMethod) → FormedMethods ms → (c : BareClass) (r : List Terminal) → run (methods_toks ms r) (State.define (Stage.members (with_methods c before))) ≡ run r (State.define (Stage.members (with_methods c (before ++ ms))))
methods-complete [] before fm c r = ap (λ z. run r (State.define (Stage.members (with_methods c z)))) (sym (append-nil before))
methods-complete (m ∷ ms) before fm c r =
    method-complete m fm.0 (with_methods c before) (methods_toks ms r)
    ∙ methods-complete ms (before ++ (m ∷ [])) fm.1 c r
    ∙ ap (λ z. run r (State.define (Stage.members (with_methods c z)))) (append_assoc before (m ∷ []) ms)

class-complete : (c : BareClass) → FormedMethods c.methods → parse Kind.class (tokens_of (Text.class c)) ≡ Outcome.accepted (Text.class c)
unfolding run
class-complete c fc = methods-complete c.methods [] fc c (keyword word.End ∷ [])

rule-complete : (e : Bare) → Formed e → parse Kind.rule (tokens_of (Text.rule e)) ≡ Outcome.accepted (Text.rule e)
unfolding run
rule-complete e fe = complete e fe Context.whole (level-top e) [] (free-alone e [] tt)

pub text-complete : (κ : Kind) (t : BareText) → FormedText κ t → parse κ (tokens_of t) ≡ Outcome.accepted t
text-complete κ (Text.rule e) ft = ap (λ z. parse z (toks e [])) ft.0 ∙ rule-complete e ft.1
text-complete κ (Text.class c) ft = ap (λ z. parse z (tokens_of (Text.class c))) ft.0 ∙ class-complete c ft.1
