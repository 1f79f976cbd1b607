-- The tokens that a state has read, and what is fine in it. Each step reads one token and leaves a fine state.
use Rattle.std.proofs.Common.{◌≡◌, ℕ, ◌≤◌, Bool, true, false, cond, eqb, leb, List, ◌∷◌, sym, refl, ap, subst, arith, leb-true}
use mathlib.Core.Option.{Option, none, some}
use Rattle.lexer.specs.Token.{Terminal, identifier, keyword, symbol}
use Rattle.lexer.specs.declared.token.Keyword.TheVariants as word
use Rattle.lexer.specs.declared.token.Symbol.TheVariants as sign
use Rattle.grammar.specs.Tree.{Expr, Args, Bare, BareArgs, BareClass}
use Rattle.grammar.specs.Grammar.{Kind, toks, arg_toks, lead_toks, name_toks, methods_toks, level, Formed, FormedArgs, FormedMethods, operand, test, item, sequence}
use Rattle.grammar.specs.Role.{Role, Leaf, Opening, Joint, Stop, role, leaf_tree, code, on}
use Rattle.grammar.specs.Machine.{Target, target_of, Callee, call, Bracket, Context, room, Stage, State, closes, ending, next, assign, opens, joins, begins, follows, naming, only, either, argues, lists, defines, takes, step}
use Rattle.grammar.proofs.Tokens.{leaf_token, opening_token, joint_token, stop_token, token, token-role, same_stop, lead_names, names-last, lead-last, methods-last, formed-last}

abbrev pub callee_toks : Callee → List Terminal → List Terminal
callee_toks (Callee.method e m) r = toks e (symbol sign.Dot ∷ identifier m ∷ r)
callee_toks (Callee.new c) r = keyword word.New ∷ identifier c ∷ r

abbrev pub target_token : Target → Terminal
target_token (Target.local x) = identifier x
target_token (Target.field x) = Terminal.field x

abbrev pub bracket_toks : Bracket → List Terminal → List Terminal
bracket_toks Bracket.condition r = keyword word.If ∷ r
bracket_toks (Bracket.consequent c) r = keyword word.If ∷ toks c (keyword word.Then ∷ r)
bracket_toks (Bracket.alternative c d) r = keyword word.If ∷ toks c (keyword word.Then ∷ toks d (keyword word.Else ∷ r))
bracket_toks Bracket.guard r = keyword word.While ∷ r
bracket_toks (Bracket.loop c) r = keyword word.While ∷ toks c (keyword word.Do ∷ r)
bracket_toks (Bracket.argument f xs) r = callee_toks f (symbol sign.OpenParen ∷ lead_toks xs r)

-- a class up to the methods read so far
abbrev pub head_toks : BareClass → List Terminal → List Terminal
head_toks c r = keyword word.Class ∷ identifier c.name ∷ symbol sign.Less ∷ identifier c.parent ∷ keyword word.Begin ∷ methods_toks c.methods r

-- what was read before the expression that the context waits for
abbrev pub read_k : Context → List Terminal → List Terminal
read_k Context.whole r = r
read_k (Context.body c m ps) r = head_toks c (keyword word.Def ∷ identifier m ∷ symbol sign.OpenParen ∷ name_toks ps (symbol sign.CloseParen ∷ r))
read_k (Context.value t k) r = read_k k (target_token t ∷ symbol sign.Equals ∷ r)
read_k (Context.rest e k) r = read_k k (toks e (symbol sign.Semicolon ∷ r))
read_k (Context.within b k) r = read_k k (bracket_toks b r)

abbrev pub read_at : Stage → List Terminal → List Terminal
read_at Stage.start r = r
read_at Stage.class r = keyword word.Class ∷ r
read_at (Stage.class_name c) r = keyword word.Class ∷ identifier c ∷ r
read_at (Stage.less c) r = keyword word.Class ∷ identifier c ∷ symbol sign.Less ∷ r
read_at (Stage.parent c p) r = keyword word.Class ∷ identifier c ∷ symbol sign.Less ∷ identifier p ∷ r
read_at (Stage.members c) r = head_toks c r
read_at (Stage.def c) r = head_toks c (keyword word.Def ∷ r)
read_at (Stage.method_name c m) r = head_toks c (keyword word.Def ∷ identifier m ∷ r)
read_at (Stage.open' c m) r = head_toks c (keyword word.Def ∷ identifier m ∷ symbol sign.OpenParen ∷ r)
read_at (Stage.parameter c m ps p) r = head_toks c (keyword word.Def ∷ identifier m ∷ symbol sign.OpenParen ∷ lead_names ps (identifier p ∷ r))
read_at (Stage.comma c m ps) r = head_toks c (keyword word.Def ∷ identifier m ∷ symbol sign.OpenParen ∷ lead_names ps r)
read_at (Stage.end c) r = head_toks c (keyword word.End ∷ r)

-- what was read, with r behind it
abbrev pub read : State → List Terminal → List Terminal
read (State.want k) r = read_k k r
read (State.have e k) r = read_k k (toks e r)
read (State.dotted e k) r = read_k k (toks e (symbol sign.Dot ∷ r))
read (State.tested e k) r = read_k k (toks e (keyword word.InstanceOf ∷ r))
read (State.newed k) r = read_k k (keyword word.New ∷ r)
read (State.named f k) r = read_k k (callee_toks f r)
read (State.opened f k) r = read_k k (callee_toks f (symbol sign.OpenParen ∷ r))
read (State.define p) r = read_at p r

abbrev pub FineCallee : Callee → Type 0
FineCallee (Callee.method e m) = (level e ≤ operand) × Formed e
FineCallee (Callee.new c) = Unit {0}

abbrev pub FineBracket : Bracket → Type 0
FineBracket Bracket.condition = Unit {0}
FineBracket (Bracket.consequent c) = Formed c
FineBracket (Bracket.alternative c d) = Formed c × Formed d
FineBracket Bracket.guard = Unit {0}
FineBracket (Bracket.loop c) = Formed c
FineBracket (Bracket.argument f xs) = FineCallee f × FormedArgs xs

-- the parts are formed, and the text is of the kind κ
abbrev pub FineK : Kind → Context → Type 0
FineK κ Context.whole = κ ≡ Kind.rule
FineK κ (Context.body c m ps) = (κ ≡ Kind.class) × FormedMethods c.methods
FineK κ (Context.value t k) = FineK κ k
FineK κ (Context.rest e k) = (level e ≤ item) × Formed e × (sequence ≤ room k) × FineK κ k
FineK κ (Context.within b k) = FineBracket b × FineK κ k

abbrev pub FineAt : Stage → Type 0
FineAt Stage.start = Unit {0}
FineAt Stage.class = Unit {0}
FineAt (Stage.class_name c) = Unit {0}
FineAt (Stage.less c) = Unit {0}
FineAt (Stage.parent c p) = Unit {0}
FineAt (Stage.members c) = FormedMethods c.methods
FineAt (Stage.def c) = FormedMethods c.methods
FineAt (Stage.method_name c m) = FormedMethods c.methods
FineAt (Stage.open' c m) = FormedMethods c.methods
FineAt (Stage.parameter c m ps p) = FormedMethods c.methods
FineAt (Stage.comma c m ps) = FormedMethods c.methods
FineAt (Stage.end c) = FormedMethods c.methods

abbrev pub Fine : Kind → State → Type 0
Fine κ (State.want k) = FineK κ k
Fine κ (State.have e k) = (level e ≤ test) × Formed e × FineK κ k
Fine κ (State.dotted e k) = (level e ≤ operand) × Formed e × FineK κ k
Fine κ (State.tested e k) = (level e ≤ test) × Formed e × FineK κ k
Fine κ (State.newed k) = FineK κ k
Fine κ (State.named f k) = FineCallee f × FineK κ k
Fine κ (State.opened f k) = FineCallee f × FineK κ k
Fine κ (State.define p) = (κ ≡ Kind.class) × FineAt p

pub roomy : (k : Context) → item ≤ room k
roomy Context.whole = omega arith
roomy (Context.body c m ps) = omega arith
roomy (Context.value t k) = omega arith
roomy (Context.rest e k) = omega arith
roomy (Context.within b k) = omega arith

-- where a step is made, the state after it has read what f says, and is fine
abbrev pub Leads : Kind → (List Terminal → List Terminal) → Option State → Type 0
Leads κ f none = Unit {0}
Leads κ f (some s) = ((r : List Terminal) → f r ≡ read s r) × Fine κ s

module _ (κ : Kind) where
  tests : (b : Bool) (f : List Terminal → List Terminal) (x y : Option State) → (b ≡ true → Leads κ f x) → Leads κ f y → Leads κ f (cond b x y)
  tests true f x y h g = h refl
  tests false f x y h g = g

  -- the token is known from the test
  on-leads : (a s : Stop) (g : Terminal → List Terminal → List Terminal) (x y : Option State) → Leads κ (g (stop_token a)) x → Leads κ (g (stop_token s)) y → Leads κ (g (stop_token s)) (on a s x y)
  on-leads a s g x y h m = tests (eqb (code a) (code s)) (g (stop_token s)) x y (λ e. subst (λ z. Leads κ (g (stop_token z)) x) (same_stop a s e) h) m

  called : (f : Callee) (xs : BareArgs) (k : Context) (r : List Terminal) → read_k k (callee_toks f (symbol sign.OpenParen ∷ arg_toks xs (symbol sign.CloseParen ∷ r))) ≡ read (State.have (call f xs) k) r
  called (Callee.method e m) xs k r = refl
  called (Callee.new c) xs k r = refl

  called-fine : (f : Callee) (xs : BareArgs) (k : Context) → FineCallee f → FormedArgs xs → FineK κ k → Fine κ (State.have (call f xs) k)
  called-fine (Callee.method e m) xs k ff fx fk = (omega arith, (ff.0, ff.1, fx), fk)
  called-fine (Callee.new c) xs k ff fx fk = (omega arith, fx, fk)

  closes-leads : (b : Bracket) (e : Bare) (k : Context) (s : Stop) → Formed e → FineBracket b → FineK κ k → Leads κ (λ r. read_k k (bracket_toks b (toks e (stop_token s ∷ r)))) (closes b e k s)
  closes-leads Bracket.condition e k s fe fb fk = on-leads Stop.then s (λ z r. read_k k (keyword word.If ∷ toks e (z ∷ r))) _ none (λ r. refl, (fe, fk)) tt
  closes-leads (Bracket.consequent c) e k s fe fb fk = on-leads Stop.else s (λ z r. read_k k (bracket_toks (Bracket.consequent c) (toks e (z ∷ r)))) _ none (λ r. refl, ((fb, fe), fk)) tt
  closes-leads (Bracket.alternative c d) e k s fe fb fk = on-leads Stop.end s (λ z r. read_k k (bracket_toks (Bracket.alternative c d) (toks e (z ∷ r)))) _ none (λ r. refl, (omega arith, (fb.0, fb.1, fe), fk)) tt
  closes-leads Bracket.guard e k s fe fb fk = on-leads Stop.do' s (λ z r. read_k k (keyword word.While ∷ toks e (z ∷ r))) _ none (λ r. refl, (fe, fk)) tt
  closes-leads (Bracket.loop c) e k s fe fb fk = on-leads Stop.end s (λ z r. read_k k (bracket_toks (Bracket.loop c) (toks e (z ∷ r)))) _ none (λ r. refl, (omega arith, (fb, fe), fk)) tt
  closes-leads (Bracket.argument f xs) e k s fe fb fk =
      on-leads Stop.close s (λ z r. read_k k (bracket_toks (Bracket.argument f xs) (toks e (z ∷ r)))) _ _
      (called f (Args.more xs e) k, called-fine f (Args.more xs e) k fb.0 (fb.1, fe) fk)
      (on-leads Stop.comma s (λ z r. read_k k (bracket_toks (Bracket.argument f xs) (toks e (z ∷ r)))) _ none (λ r. refl, ((fb.0, (fb.1, fe)), fk)) tt)

  ending-leads : (e : Bare) (k : Context) (s : Stop) → Formed e → level e ≤ room k → FineK κ k → Leads κ (λ r. read_k k (toks e (stop_token s ∷ r))) (ending e k s)
  ending-leads e Context.whole s fe h fk = tt
  ending-leads e (Context.body c m ps) s fe h fk =
      on-leads Stop.end s (λ z r. read_k (Context.body c m ps) (toks e (z ∷ r))) _ none
      (λ r. ap (λ z. keyword word.Class ∷ identifier c.name ∷ symbol sign.Less ∷ identifier c.parent ∷ keyword word.Begin ∷ z) (sym (methods-last c.methods _ r)), (fk.0, formed-last c.methods _ fk.1 fe)) tt
  ending-leads e (Context.value (Target.local x) k) s fe h fk = ending-leads (Expr.set_local tt x e) k s (h, fe) (roomy k) fk
  ending-leads e (Context.value (Target.field x) k) s fe h fk = ending-leads (Expr.set_field tt x e) k s (h, fe) (roomy k) fk
  ending-leads e (Context.rest d k) s fe h fk = ending-leads (Expr.seq tt d e) k s (fk.0, fk.1, fe) fk.2 fk.3
  ending-leads e (Context.within b k) s fe h fk = closes-leads b e k s fe fk.0 fk.1

  next-leads : (e : Bare) (k : Context) → Formed e → level e ≤ item → FineK κ k → Leads κ (λ r. read_k k (toks e (symbol sign.Semicolon ∷ r))) (some (next e k))
  next-leads e Context.whole fe h fk = (λ r. refl, (h, fe, omega arith, fk))
  next-leads e (Context.body c m ps) fe h fk = (λ r. refl, (h, fe, omega arith, fk))
  next-leads e (Context.value (Target.local x) k) fe h fk = next-leads (Expr.set_local tt x e) k (h, fe) (omega arith) fk
  next-leads e (Context.value (Target.field x) k) fe h fk = next-leads (Expr.set_field tt x e) k (h, fe) (omega arith) fk
  next-leads e (Context.rest d k) fe h fk = (λ r. refl, (h, fe, omega arith, fk))
  next-leads e (Context.within b k) fe h fk = (λ r. refl, (h, fe, omega arith, fk))

  assign-leads : (e : Bare) (k : Context) → FineK κ k → Leads κ (λ r. read_k k (toks e (symbol sign.Equals ∷ r))) (assign (target_of e) k)
  assign-leads (Expr.int a w) k fk = tt
  assign-leads (Expr.nil a) k fk = tt
  assign-leads (Expr.self a) k fk = tt
  assign-leads (Expr.string a w) k fk = tt
  assign-leads (Expr.local a x) k fk = (λ r. refl, fk)
  assign-leads (Expr.set_local a x e) k fk = tt
  assign-leads (Expr.field a x) k fk = (λ r. refl, fk)
  assign-leads (Expr.set_field a x e) k fk = tt
  assign-leads (Expr.if_then_else a c d e) k fk = tt
  assign-leads (Expr.while_do a c d) k fk = tt
  assign-leads (Expr.seq a c d) k fk = tt
  assign-leads (Expr.new a c xs) k fk = tt
  assign-leads (Expr.instance_of a e c) k fk = tt
  assign-leads (Expr.invoke a e m xs) k fk = tt

  leaf-leads : (l : Leaf) (k : Context) → FineK κ k → Leads κ (λ r. read_k k (leaf_token l ∷ r)) (some (State.have (leaf_tree l) k))
  leaf-leads (Leaf.int w) k fk = (λ r. refl, (omega arith, tt, fk))
  leaf-leads (Leaf.string w) k fk = (λ r. refl, (omega arith, tt, fk))
  leaf-leads (Leaf.field x) k fk = (λ r. refl, (omega arith, tt, fk))
  leaf-leads Leaf.nil k fk = (λ r. refl, (omega arith, tt, fk))
  leaf-leads Leaf.self k fk = (λ r. refl, (omega arith, tt, fk))

  opens-leads : (o : Opening) (k : Context) → FineK κ k → Leads κ (λ r. read_k k (opening_token o ∷ r)) (some (opens o k))
  opens-leads Opening.if k fk = (λ r. refl, (tt, fk))
  opens-leads Opening.while k fk = (λ r. refl, (tt, fk))
  opens-leads Opening.new k fk = (λ r. refl, fk)

  begins-leads : (k : Context) (ρ : Role) → FineK κ k → Leads κ (λ r. read_k k (token ρ ∷ r)) (begins k ρ)
  begins-leads k (Role.name x) fk = (λ r. refl, (omega arith, tt, fk))
  begins-leads k (Role.leaf l) fk = leaf-leads l k fk
  begins-leads k (Role.opening o) fk = opens-leads o k fk
  begins-leads k (Role.joint j) fk = tt
  begins-leads k (Role.stop s) fk = tt

  joins-leads : (j : Joint) (e : Bare) (k : Context) → level e ≤ test → Formed e → FineK κ k → Leads κ (λ r. read_k k (toks e (joint_token j ∷ r))) (joins j e k)
  joins-leads Joint.semicolon e k h fe fk = next-leads e k fe (omega arith) fk
  joins-leads Joint.equals e k h fe fk = assign-leads e k fk
  joins-leads Joint.dot e k h fe fk = tests (leb (level e) operand) _ _ none (λ q. (λ r. refl, (leb-true (level e) operand q, fe, fk))) tt
  joins-leads Joint.instance_of e k h fe fk = tests (leb (level e) test) _ _ none (λ q. (λ r. refl, (h, fe, fk))) tt

  follows-leads : (e : Bare) (k : Context) (ρ : Role) → level e ≤ test → Formed e → FineK κ k → Leads κ (λ r. read_k k (toks e (token ρ ∷ r))) (follows e k ρ)
  follows-leads e k (Role.name x) h fe fk = tt
  follows-leads e k (Role.leaf l) h fe fk = tt
  follows-leads e k (Role.opening o) h fe fk = tt
  follows-leads e k (Role.joint j) h fe fk = joins-leads j e k h fe fk
  follows-leads e k (Role.stop s) h fe fk = let g = roomy k in ending-leads e k s fe (omega arith) fk

  naming-leads : (f : List ℕ → State) (g : Terminal → List Terminal → List Terminal) → ((x : List ℕ) → Leads κ (g (identifier x)) (some (f x))) → (ρ : Role) → Leads κ (g (token ρ)) (naming f ρ)
  naming-leads f g h (Role.name x) = h x
  naming-leads f g h (Role.leaf l) = tt
  naming-leads f g h (Role.opening o) = tt
  naming-leads f g h (Role.joint j) = tt
  naming-leads f g h (Role.stop s) = tt

  only-leads : (a : Stop) (x : State) (g : Terminal → List Terminal → List Terminal) → Leads κ (g (stop_token a)) (some x) → (ρ : Role) → Leads κ (g (token ρ)) (only a x ρ)
  only-leads a x g h (Role.name y) = tt
  only-leads a x g h (Role.leaf l) = tt
  only-leads a x g h (Role.opening o) = tt
  only-leads a x g h (Role.joint j) = tt
  only-leads a x g h (Role.stop s) = on-leads a s g (some x) none h tt

  either-leads : (a : Stop) (x : State) (b : Stop) (y : State) (g : Terminal → List Terminal → List Terminal) → Leads κ (g (stop_token a)) (some x) → Leads κ (g (stop_token b)) (some y) → (ρ : Role) → Leads κ (g (token ρ)) (either a x b y ρ)
  either-leads a x b y g h i (Role.name z) = tt
  either-leads a x b y g h i (Role.leaf l) = tt
  either-leads a x b y g h i (Role.opening o) = tt
  either-leads a x b y g h i (Role.joint j) = tt
  either-leads a x b y g h i (Role.stop s) = on-leads a s g (some x) _ h (on-leads b s g (some y) none i tt)

  argues-leads : (f : Callee) (k : Context) (ρ : Role) → FineCallee f → FineK κ k → Leads κ (λ r. read (State.opened f k) (token ρ ∷ r)) (argues f k ρ)
  argues-leads f k (Role.name x) ff fk = begins-leads (Context.within (Bracket.argument f Args.none) k) (Role.name x) ((ff, tt), fk)
  argues-leads f k (Role.leaf l) ff fk = begins-leads (Context.within (Bracket.argument f Args.none) k) (Role.leaf l) ((ff, tt), fk)
  argues-leads f k (Role.opening o) ff fk = begins-leads (Context.within (Bracket.argument f Args.none) k) (Role.opening o) ((ff, tt), fk)
  argues-leads f k (Role.joint j) ff fk = tt
  argues-leads f k (Role.stop s) ff fk = on-leads Stop.close s (λ z r. read (State.opened f k) (z ∷ r)) _ none (called f Args.none k, called-fine f Args.none k ff tt fk) tt

  lists-leads : (c : BareClass) (m : List ℕ) (ρ : Role) → κ ≡ Kind.class → FormedMethods c.methods → Leads κ (λ r. read_at (Stage.open' c m) (token ρ ∷ r)) (lists c m ρ)
  lists-leads c m (Role.name x) q fc = (λ r. refl, (q, fc))
  lists-leads c m (Role.leaf l) q fc = tt
  lists-leads c m (Role.opening o) q fc = tt
  lists-leads c m (Role.joint j) q fc = tt
  lists-leads c m (Role.stop s) q fc = on-leads Stop.close s (λ z r. read_at (Stage.open' c m) (z ∷ r)) _ none (λ r. refl, (q, fc)) tt

  defines-leads : (p : Stage) (ρ : Role) → κ ≡ Kind.class → FineAt p → Leads κ (λ r. read_at p (token ρ ∷ r)) (defines p ρ)
  defines-leads Stage.start ρ q h = only-leads Stop.class _ (λ z r. read_at Stage.start (z ∷ r)) (λ r. refl, (q, tt)) ρ
  defines-leads Stage.class ρ q h = naming-leads _ (λ z r. read_at Stage.class (z ∷ r)) (λ c. (λ r. refl, (q, tt))) ρ
  defines-leads (Stage.class_name c) ρ q h = only-leads Stop.less _ (λ z r. read_at (Stage.class_name c) (z ∷ r)) (λ r. refl, (q, tt)) ρ
  defines-leads (Stage.less c) ρ q h = naming-leads _ (λ z r. read_at (Stage.less c) (z ∷ r)) (λ p. (λ r. refl, (q, tt))) ρ
  defines-leads (Stage.parent c p) ρ q h = only-leads Stop.begin _ (λ z r. read_at (Stage.parent c p) (z ∷ r)) (λ r. refl, (q, tt)) ρ
  defines-leads (Stage.members c) ρ q h = either-leads Stop.def _ Stop.end _ (λ z r. read_at (Stage.members c) (z ∷ r)) (λ r. refl, (q, h)) (λ r. refl, (q, h)) ρ
  defines-leads (Stage.def c) ρ q h = naming-leads _ (λ z r. read_at (Stage.def c) (z ∷ r)) (λ m. (λ r. refl, (q, h))) ρ
  defines-leads (Stage.method_name c m) ρ q h = only-leads Stop.open' _ (λ z r. read_at (Stage.method_name c m) (z ∷ r)) (λ r. refl, (q, h)) ρ
  defines-leads (Stage.open' c m) ρ q h = lists-leads c m ρ q h
  defines-leads (Stage.parameter c m ps p) ρ q h =
      either-leads Stop.close _ Stop.comma _ (λ z r. read_at (Stage.parameter c m ps p) (z ∷ r))
      (λ r. ap (λ z. read_at (Stage.open' c m) z) (sym (names-last ps p (symbol sign.CloseParen ∷ r))), (q, h))
      (λ r. ap (λ z. read_at (Stage.open' c m) z) (sym (lead-last ps p r)), (q, h)) ρ
  defines-leads (Stage.comma c m ps) ρ q h = naming-leads _ (λ z r. read_at (Stage.comma c m ps) (z ∷ r)) (λ p. (λ r. refl, (q, h))) ρ
  defines-leads (Stage.end c) ρ q h = tt

  takes-leads : (s : State) (ρ : Role) → Fine κ s → Leads κ (λ r. read s (token ρ ∷ r)) (takes s ρ)
  takes-leads (State.want k) ρ h = begins-leads k ρ h
  takes-leads (State.have e k) ρ h = follows-leads e k ρ h.0 h.1 h.2
  takes-leads (State.dotted e k) ρ h = naming-leads _ (λ z r. read (State.dotted e k) (z ∷ r)) (λ m. (λ r. refl, ((h.0, h.1), h.2))) ρ
  takes-leads (State.tested e k) ρ h = naming-leads _ (λ z r. read (State.tested e k) (z ∷ r)) (λ c. (λ r. refl, (omega arith, (h.0, h.1), h.2))) ρ
  takes-leads (State.newed k) ρ h = naming-leads _ (λ z r. read (State.newed k) (z ∷ r)) (λ c. (λ r. refl, (tt, h))) ρ
  takes-leads (State.named f k) ρ h = only-leads Stop.open' _ (λ z r. read (State.named f k) (z ∷ r)) (λ r. refl, h) ρ
  takes-leads (State.opened f k) ρ h = argues-leads f k ρ h.0 h.1
  takes-leads (State.define p) ρ h = defines-leads p ρ h.0 h.1

  pub step-leads : (s : State) (t : Terminal) → Fine κ s → Leads κ (λ r. read s (t ∷ r)) (step s t)
  step-leads s t h = subst (λ z. Leads κ (λ r. read s (z ∷ r)) (takes s (role t))) (token-role t) (takes-leads s (role t) h)
