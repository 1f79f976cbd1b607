-- Single steps of the machine, for the law and for code that is held to the machine.
use Rattle.std.proofs.Common.{◌≡◌, ℕ, ◌<◌, ◌≤◌, Bool, true, false, cond, eqb, List, [], ◌∷◌, sym, refl, ap, ◌∙◌, subst, arith, le-leb}
use mathlib.Core.Option.{none, some}
use borrow.Author.Tests.{lt-leb}
use Rattle.lexer.specs.Token.{Terminal, identifier, keyword, symbol}
use Rattle.lexer.specs.declared.token.Keyword.TheVariants as word
use Rattle.lexer.specs.declared.token.Symbol.TheVariants as sign
use Rattle.grammar.specs.Tree.{Expr, Args, Bare, BareClass}
use Rattle.grammar.specs.Grammar.{level, operand, test, item, sequence}
use Rattle.grammar.specs.Role.{Role, Joint, Stop, role, code, on}
use Rattle.grammar.specs.Machine.{Target, write, target_of, Callee, Bracket, Context, room, Stage, State, Outcome, closes, ending, next, assign, naming, only, either, takes, step, over, finish, went, run}
use Rattle.grammar.specs.Following.{First, Calm, Last, NoItem, IdleRole, NoName, Unended}
use Rattle.grammar.proofs.Tokens.{stop_token, token, token-role, same_stop}

pub goes : (s m : State) (t : Terminal) (r : List Terminal) → step s t ≡ some m → run (t ∷ r) s ≡ run r m
unfolding run
goes s m t r q = ap (went (run r) (t ∷ r)) q

pub halts_at : (s : State) (t : Terminal) (r : List Terminal) → step s t ≡ none → run (t ∷ r) s ≡ Outcome.refused (t ∷ r)
unfolding run
halts_at s t r q = ap (went (run r) (t ∷ r)) q

-- two states that take the next token alike run alike
alike : (s m : State) (t : Terminal) (r : List Terminal) → takes s (role t) ≡ takes m (role t) → run (t ∷ r) s ≡ run (t ∷ r) m
unfolding run
alike s m t r q = ap (went (run r) (t ∷ r)) q

dot-leaves : (e : Bare) (k : Context) → operand < level e → takes (State.have e k) (Role.joint Joint.dot) ≡ none
dot-leaves e k h = ap (λ b. cond b (some (State.dotted e k)) none) (lt-leb (level e) operand h)

instance_of-leaves : (e : Bare) (k : Context) → test < level e → takes (State.have e k) (Role.joint Joint.instance_of) ≡ none
instance_of-leaves e k h = ap (λ b. cond b (some (State.tested e k)) none) (lt-leb (level e) test h)

equals-leaves : (e : Bare) (k : Context) → target_of e ≡ none → takes (State.have e k) (Role.joint Joint.equals) ≡ none
equals-leaves e k h = ap (λ t. assign t k) h

-- an item ends, and what waited for it is joined with it
value-takes : (t : Target) (e : Bare) (k : Context) (ρ : Role) (r : List Terminal) → Calm e (token ρ ∷ r) → takes (State.have e (Context.value t k)) ρ ≡ takes (State.have (write t e) k) ρ
value-takes t e k (Role.name x) r h = refl
value-takes t e k (Role.leaf l) r h = refl
value-takes t e k (Role.opening o) r h = refl
value-takes t e k (Role.joint Joint.semicolon) r h = refl
value-takes (Target.local x) e k (Role.joint Joint.equals) r h = equals-leaves e _ (h.equals refl)
value-takes (Target.field x) e k (Role.joint Joint.equals) r h = equals-leaves e _ (h.equals refl)
value-takes (Target.local x) e k (Role.joint Joint.dot) r h = dot-leaves e _ (h.dot refl)
value-takes (Target.field x) e k (Role.joint Joint.dot) r h = dot-leaves e _ (h.dot refl)
value-takes (Target.local x) e k (Role.joint Joint.instance_of) r h = instance_of-leaves e _ (h.instance_of refl)
value-takes (Target.field x) e k (Role.joint Joint.instance_of) r h = instance_of-leaves e _ (h.instance_of refl)
value-takes t e k (Role.stop s) r h = refl

pub value-ends : (t : Target) (e : Bare) (k : Context) (r : List Terminal) → Calm e r → run r (State.have e (Context.value t k)) ≡ run r (State.have (write t e) k)
unfolding run
value-ends t e k [] h = refl
value-ends t e k (x ∷ r) h =
    alike (State.have e (Context.value t k)) (State.have (write t e) k) x r (value-takes t e k (role x) r (subst (λ z. Calm e (z ∷ r)) (sym (token-role x)) h))

rest-takes : (d e : Bare) (k : Context) (ρ : Role) (r : List Terminal) → Calm e (token ρ ∷ r) → Last (token ρ ∷ r) → takes (State.have e (Context.rest d k)) ρ ≡ takes (State.have (Expr.seq tt d e) k) ρ
rest-takes d e k (Role.name x) r h g = refl
rest-takes d e k (Role.leaf l) r h g = refl
rest-takes d e k (Role.opening o) r h g = refl
rest-takes d e k (Role.joint Joint.semicolon) r h g = absurd (g refl)
rest-takes d e k (Role.joint Joint.equals) r h g = equals-leaves e _ (h.equals refl)
rest-takes d e k (Role.joint Joint.dot) r h g = dot-leaves e _ (h.dot refl)
rest-takes d e k (Role.joint Joint.instance_of) r h g = instance_of-leaves e _ (h.instance_of refl)
rest-takes d e k (Role.stop s) r h g = refl

pub rest-ends : (d e : Bare) (k : Context) (r : List Terminal) → Calm e r → Last r → run r (State.have e (Context.rest d k)) ≡ run r (State.have (Expr.seq tt d e) k)
unfolding run
rest-ends d e k [] h g = refl
rest-ends d e k (x ∷ r) h g =
    alike (State.have e (Context.rest d k)) (State.have (Expr.seq tt d e) k) x r
    (rest-takes d e k (role x) r (subst (λ z. Calm e (z ∷ r)) (sym (token-role x)) h) (subst (λ z. Last (z ∷ r)) (sym (token-role x)) g))

-- a token that is not the one wanted
pub other : {A : Type 0} (a s : Stop) (x y : A) → (stop_token s ≡ stop_token a → ⊥) → on a s x y ≡ y
other a s x y h = go (eqb (code a) (code s)) refl
  where
    go : (b : Bool) → eqb (code a) (code s) ≡ b → cond b x y ≡ y
    go true q = absurd (h (sym (ap stop_token (same_stop a s q))))
    go false q = refl

-- the first argument begins where no `)` stands
argument-takes : (f : Callee) (k : Context) (ρ : Role) → (token ρ ≡ symbol sign.CloseParen → ⊥) → takes (State.opened f k) ρ ≡ takes (State.want (Context.within (Bracket.argument f Args.none) k)) ρ
argument-takes f k (Role.name x) h = refl
argument-takes f k (Role.leaf l) h = refl
argument-takes f k (Role.opening o) h = refl
argument-takes f k (Role.joint j) h = refl
argument-takes f k (Role.stop s) h = other Stop.close s _ none h

pub argument-begins : (f : Callee) (k : Context) (r : List Terminal) → (First (symbol sign.CloseParen) r → ⊥) → run r (State.opened f k) ≡ run r (State.want (Context.within (Bracket.argument f Args.none) k))
unfolding run
argument-begins f k [] h = refl
argument-begins f k (t ∷ r) h = alike (State.opened f k) (State.want (Context.within (Bracket.argument f Args.none) k)) t r (argument-takes f k (role t) (λ q. h (sym (token-role t) ∙ q)))

pub next-is : (e : Bare) (k : Context) → sequence ≤ room k → next e k ≡ State.want (Context.rest e k)
next-is e Context.whole h = refl
next-is e (Context.body c m ps) h = refl
next-is e (Context.value t k) h = absurd (omega arith)
next-is e (Context.rest d k) h = refl
next-is e (Context.within b k) h = refl

pub semicolon-goes : (e : Bare) (k : Context) (r : List Terminal) → sequence ≤ room k → run (symbol sign.Semicolon ∷ r) (State.have e k) ≡ run r (State.want (Context.rest e k))
semicolon-goes e k r h = goes (State.have e k) _ (symbol sign.Semicolon) r (ap some (next-is e k h))

pub dot-goes : (e : Bare) (k : Context) (r : List Terminal) → level e ≤ operand → run (symbol sign.Dot ∷ r) (State.have e k) ≡ run r (State.dotted e k)
dot-goes e k r h = goes (State.have e k) _ (symbol sign.Dot) r (ap (λ b. cond b (some (State.dotted e k)) none) (le-leb (level e) operand h))

pub instance_of-goes : (e : Bare) (k : Context) (r : List Terminal) → level e ≤ test → run (keyword word.InstanceOf ∷ r) (State.have e k) ≡ run r (State.tested e k)
instance_of-goes e k r h = goes (State.have e k) _ (keyword word.InstanceOf) r (ap (λ b. cond b (some (State.tested e k)) none) (le-leb (level e) test h))

-- an expression that ends no test and is no target is calm before anything
pub calm-above : (e : Bare) (r : List Terminal) → item ≤ level e → target_of e ≡ none → Calm e r
calm-above e r h q = record { equals = λ _. q; dot = λ _. omega arith; instance_of = λ _. h }

idle-takes : (k : Context) (ρ : Role) → IdleRole ρ → takes (State.want k) ρ ≡ none
idle-takes k (Role.name x) h = absurd h
idle-takes k (Role.leaf l) h = absurd h
idle-takes k (Role.opening o) h = absurd h
idle-takes k (Role.joint j) h = refl
idle-takes k (Role.stop s) h = refl

-- where an item is wanted and none begins
pub want-halts : (k : Context) (r : List Terminal) → NoItem r → run r (State.want k) ≡ Outcome.refused r
unfolding run
want-halts k [] h = refl
want-halts k (t ∷ r) h = halts_at (State.want k) t r (idle-takes k (role t) h)

naming-none : (f : List ℕ → State) (ρ : Role) → ((x : List ℕ) → token ρ ≡ identifier x → ⊥) → naming f ρ ≡ none
naming-none f (Role.name x) h = absurd (h x refl)
naming-none f (Role.leaf l) h = refl
naming-none f (Role.opening o) h = refl
naming-none f (Role.joint j) h = refl
naming-none f (Role.stop s) h = refl

only_none : (a : Stop) (m : State) (ρ : Role) → (token ρ ≡ stop_token a → ⊥) → only a m ρ ≡ none
only_none a m (Role.name x) h = refl
only_none a m (Role.leaf l) h = refl
only_none a m (Role.opening o) h = refl
only_none a m (Role.joint j) h = refl
only_none a m (Role.stop s) h = other a s (some m) none h

either-none : (a : Stop) (m : State) (b : Stop) (n : State) (ρ : Role) → (token ρ ≡ stop_token a → ⊥) → (token ρ ≡ stop_token b → ⊥) → either a m b n ρ ≡ none
either-none a m b n (Role.name x) h g = refl
either-none a m b n (Role.leaf l) h g = refl
either-none a m b n (Role.opening o) h g = refl
either-none a m b n (Role.joint j) h g = refl
either-none a m b n (Role.stop s) h g = other a s (some m) _ h ∙ other b s (some n) none g

-- the state s takes names only, and none comes; both equations are `refl` at each such state
pub name-halts : (s : State) (f : List ℕ → State) (r : List Terminal) → ((ρ : Role) → takes s ρ ≡ naming f ρ) → finish s ≡ Outcome.refused [] → NoName r → run r s ≡ Outcome.refused r
unfolding run
name-halts s f [] w e h = e
name-halts s f (t ∷ r) w e h = halts_at s t r (w (role t) ∙ naming-none f (role t) (λ x q. h x (sym (token-role t) ∙ q)))

-- the state s takes one token only, and another comes
pub only-halts : (s : State) (a : Stop) (m : State) (r : List Terminal) → ((ρ : Role) → takes s ρ ≡ only a m ρ) → finish s ≡ Outcome.refused [] → (First (stop_token a) r → ⊥) → run r s ≡ Outcome.refused r
unfolding run
only-halts s a m [] w e h = e
only-halts s a m (t ∷ r) w e h = halts_at s t r (w (role t) ∙ only_none a m (role t) (λ q. h (sym (token-role t) ∙ q)))

-- the state s takes one of two tokens only, and another comes
pub either-halts : (s : State) (a : Stop) (m : State) (b : Stop) (n : State) (r : List Terminal) → ((ρ : Role) → takes s ρ ≡ either a m b n ρ) → finish s ≡ Outcome.refused [] → (First (stop_token a) r → ⊥) → (First (stop_token b) r → ⊥) → run r s ≡ Outcome.refused r
unfolding run
either-halts s a m b n [] w e h g = e
either-halts s a m b n (t ∷ r) w e h g = halts_at s t r (w (role t) ∙ either-none a m b n (role t) (λ q. h (sym (token-role t) ∙ q)) (λ q. g (sym (token-role t) ∙ q)))

-- a method's parameters begin with neither a name nor `)`
lists-none : (c : BareClass) (m : List ℕ) (ρ : Role) → ((x : List ℕ) → token ρ ≡ identifier x → ⊥) → (token ρ ≡ symbol sign.CloseParen → ⊥) → takes (State.define (Stage.open' c m)) ρ ≡ none
lists-none c m (Role.name x) h g = absurd (h x refl)
lists-none c m (Role.leaf l) h g = refl
lists-none c m (Role.opening o) h g = refl
lists-none c m (Role.joint j) h g = refl
lists-none c m (Role.stop s) h g = other Stop.close s _ none g

pub parameters-halt : (c : BareClass) (m : List ℕ) (r : List Terminal) → NoName r → (First (symbol sign.CloseParen) r → ⊥) → run r (State.define (Stage.open' c m)) ≡ Outcome.refused r
unfolding run
parameters-halt c m [] h g = refl
parameters-halt c m (t ∷ r) h g = halts_at (State.define (Stage.open' c m)) t r (lists-none c m (role t) (λ x q. h x (sym (token-role t) ∙ q)) (λ q. g (sym (token-role t) ∙ q)))

have-none : (e : Bare) (k : Context) (ρ : Role) (r : List Terminal) → Calm e (token ρ ∷ r) → Last (token ρ ∷ r) → ((s : Stop) → token ρ ≡ stop_token s → ending e k s ≡ none) → takes (State.have e k) ρ ≡ none
have-none e k (Role.name x) r h g w = refl
have-none e k (Role.leaf l) r h g w = refl
have-none e k (Role.opening o) r h g w = refl
have-none e k (Role.joint Joint.semicolon) r h g w = absurd (g refl)
have-none e k (Role.joint Joint.equals) r h g w = equals-leaves e k (h.equals refl)
have-none e k (Role.joint Joint.dot) r h g w = dot-leaves e k (h.dot refl)
have-none e k (Role.joint Joint.instance_of) r h g w = instance_of-leaves e k (h.instance_of refl)
have-none e k (Role.stop s) r h g w = w s refl

-- a sequence was read, and what follows is not what its place wants
have-halts : (e : Bare) (k : Context) (r : List Terminal) → Calm e r → Last r → over e k ≡ Outcome.refused [] → ((s : Stop) → First (stop_token s) r → ending e k s ≡ none) → run r (State.have e k) ≡ Outcome.refused r
unfolding run
have-halts e k [] h g o w = o
have-halts e k (t ∷ r) h g o w =
    halts_at (State.have e k) t r
    (have-none e k (role t) r (subst (λ z. Calm e (z ∷ r)) (sym (token-role t)) h) (subst (λ z. Last (z ∷ r)) (sym (token-role t)) g) (λ s q. w s (sym (token-role t) ∙ q)))

first-is : (t u : Terminal) (r : List Terminal) → First t r → t ≡ u → First u r
first-is t u [] h q = absurd h
first-is t u (x ∷ r) h q = h ∙ q

closes-none : (b : Bracket) (e : Bare) (k : Context) (r : List Terminal) → Unended b r → (s : Stop) → First (stop_token s) r → closes b e k s ≡ none
closes-none Bracket.condition e k r h s q = other Stop.then s _ none (λ z. h (first-is _ _ r q z))
closes-none (Bracket.consequent c) e k r h s q = other Stop.else s _ none (λ z. h (first-is _ _ r q z))
closes-none (Bracket.alternative c d) e k r h s q = other Stop.end s _ none (λ z. h (first-is _ _ r q z))
closes-none Bracket.guard e k r h s q = other Stop.do' s _ none (λ z. h (first-is _ _ r q z))
closes-none (Bracket.loop c) e k r h s q = other Stop.end s _ none (λ z. h (first-is _ _ r q z))
closes-none (Bracket.argument f xs) e k r h s q =
    other Stop.close s _ _ (λ z. h.0 (first-is _ _ r q z)) ∙ other Stop.comma s _ none (λ z. h.1 (first-is _ _ r q z))

pub bracket-halts : (b : Bracket) (e : Bare) (k : Context) (r : List Terminal) → Calm e r → Last r → Unended b r → run r (State.have e (Context.within b k)) ≡ Outcome.refused r
bracket-halts b e k r h g u = have-halts e (Context.within b k) r h g refl (closes-none b e k r u)

-- a method's body was read, and no `end` follows
pub body-halts : (c : BareClass) (m : List ℕ) (ps : List (List ℕ)) (e : Bare) (r : List Terminal) → Calm e r → Last r → (First (keyword word.End) r → ⊥) → run r (State.have e (Context.body c m ps)) ≡ Outcome.refused r
body-halts c m ps e r h g u = have-halts e (Context.body c m ps) r h g refl (λ s q. other Stop.end s _ none (λ z. u (first-is _ _ r q z)))

-- a rule was read, and a token follows
pub rule-halts : (e : Bare) (t : Terminal) (r : List Terminal) → Calm e (t ∷ r) → Last (t ∷ r) → run (t ∷ r) (State.have e Context.whole) ≡ Outcome.refused (t ∷ r)
rule-halts e t r h g =
    halts_at (State.have e Context.whole) t r
    (have-none e Context.whole (role t) r (subst (λ z. Calm e (z ∷ r)) (sym (token-role t)) h) (subst (λ z. Last (z ∷ r)) (sym (token-role t)) g) (λ s q. refl))

-- a class was read, and a token follows
pub class-halts : (c : BareClass) (t : Terminal) (r : List Terminal) → run (t ∷ r) (State.define (Stage.end c)) ≡ Outcome.refused (t ∷ r)
class-halts c t r = halts_at (State.define (Stage.end c)) t r refl
