-- What is still wanted after each token of a text: a machine whose stack holds the parts of the tree that were read. Assumes nothing.
use Rattle.std.specs.Prelude.{ℕ, cond, List, [], ◌∷◌, ◌++◌, nat_le}
use Rattle.std.proofs.Math.Option.{Option, none, some}
use Rattle.lexer.specs.Token.{Terminal}
use Rattle.grammar.specs.Tree.{Expr, Args, Text, Bare, BareArgs, BareClass, BareText}
use Rattle.grammar.specs.Grammar.{Kind, level, operand, test, item, sequence}
use Rattle.grammar.specs.Role.{Role, Opening, Joint, Stop, role, leaf_tree, on}

-- what can be written to
pub data Target : Type 0 where
  local : List ℕ → Target
  field : List ℕ → Target

-- the target, `=` and a value
abbrev pub write : Target → Bare → Bare
write (Target.local x) e = Expr.set_local tt x e
write (Target.field x) e = Expr.set_field tt x e

-- what an expression of one token can be written to; no other can
abbrev pub target_of : Bare → Option Target
target_of (Expr.int a w) = none
target_of (Expr.nil a) = none
target_of (Expr.self a) = none
target_of (Expr.string a w) = none
target_of (Expr.local a x) = some (Target.local x)
target_of (Expr.set_local a x e) = none
target_of (Expr.field a x) = some (Target.field x)
target_of (Expr.set_field a x e) = none
target_of (Expr.if_then_else a c d e) = none
target_of (Expr.while_do a c d) = none
target_of (Expr.seq a c d) = none
target_of (Expr.new a c xs) = none
target_of (Expr.instance_of a e c) = none
target_of (Expr.invoke a e m xs) = none

-- what takes arguments: a method of a receiver, or a class
pub data Callee : Type 0 where
  method : Bare → List ℕ → Callee
  new : List ℕ → Callee

-- the callee with its arguments
abbrev pub call : Callee → BareArgs → Bare
call (Callee.method e m) xs = Expr.invoke tt e m xs
call (Callee.new c) xs = Expr.new tt c xs

-- what waits for a sequence and for the token that ends it
pub data Bracket : Type 0 where
  condition : Bracket
  consequent : Bare → Bracket
  alternative : Bare → Bare → Bracket
  guard : Bracket
  loop : Bare → Bracket
  argument : Callee → BareArgs → Bracket

-- what waits for an expression, the innermost outside
pub data Context : Type 0 where
  -- the whole rule
  whole : Context
  -- the body of a method with its name and parameters, in the class as read before it
  body : BareClass → List ℕ → List (List ℕ) → Context
  -- what is written to the target
  value : Target → Context → Context
  -- what follows the item
  rest : Bare → Context → Context
  within : Bracket → Context → Context

-- the highest level that fits into the context
abbrev pub room : Context → ℕ
room Context.whole = sequence
room (Context.body c m ps) = sequence
room (Context.value t k) = item
room (Context.rest e k) = sequence
room (Context.within b k) = sequence

-- where a class stands outside the bodies of its methods, by what was read last
pub data Stage : Type 0 where
  start : Stage
  class : Stage
  class_name : List ℕ → Stage
  less : List ℕ → Stage
  parent : List ℕ → List ℕ → Stage
  -- `begin`, or a method
  members : BareClass → Stage
  def : BareClass → Stage
  method_name : BareClass → List ℕ → Stage
  open' : BareClass → List ℕ → Stage
  parameter : BareClass → List ℕ → List (List ℕ) → List ℕ → Stage
  comma : BareClass → List ℕ → List (List ℕ) → Stage
  -- the last `end`
  end : BareClass → Stage

-- what was read of the text, by what is wanted next
pub data State : Type 0 where
  -- an item is wanted
  want : Context → State
  -- an expression was read, and may go on
  have : Bare → Context → State
  -- behind an operand and its dot: a name is wanted
  dotted : Bare → Context → State
  -- behind a test and `instanceof`: a name is wanted
  tested : Bare → Context → State
  -- behind `new`: a name is wanted
  newed : Context → State
  -- a callee was read: `(` is wanted
  named : Callee → Context → State
  -- behind a callee's `(`
  opened : Callee → Context → State
  -- in a class, outside the bodies of its methods
  define : Stage → State

-- how a run ends
pub data Outcome : Type 0 where
  accepted : BareText → Outcome
  -- the refused token, and what is behind it
  refused : List Terminal → Outcome

-- the class with one more method
abbrev pub with_method : BareClass → List ℕ → List (List ℕ) → Bare → BareClass
with_method c m ps e = record { name = c.name; parent = c.parent; methods = c.methods ++ (record { name = m; parameters = ps; body = e } ∷ []) }

-- a sequence in brackets ends at s
abbrev pub closes : Bracket → Bare → Context → Stop → Option State
closes Bracket.condition e k s = on Stop.then s (some (State.want (Context.within (Bracket.consequent e) k))) none
closes (Bracket.consequent c) e k s = on Stop.else s (some (State.want (Context.within (Bracket.alternative c e) k))) none
closes (Bracket.alternative c d) e k s = on Stop.end s (some (State.have (Expr.if_then_else tt c d e) k)) none
closes Bracket.guard e k s = on Stop.do' s (some (State.want (Context.within (Bracket.loop e) k))) none
closes (Bracket.loop c) e k s = on Stop.end s (some (State.have (Expr.while_do tt c e) k)) none
closes (Bracket.argument f xs) e k s =
    on Stop.close s (some (State.have (call f (Args.more xs e)) k)) (on Stop.comma s (some (State.want (Context.within (Bracket.argument f (Args.more xs e)) k))) none)

-- a sequence ends at s: what waited for it
abbrev pub ending : Bare → Context → Stop → Option State
ending e Context.whole s = none
ending e (Context.body c m ps) s = on Stop.end s (some (State.define (Stage.members (with_method c m ps e)))) none
ending e (Context.value t k) s = ending (write t e) k s
ending e (Context.rest d k) s = ending (Expr.seq tt d e) k s
ending e (Context.within b k) s = closes b e k s

-- an item ends, and another follows
abbrev pub next : Bare → Context → State
next e Context.whole = State.want (Context.rest e Context.whole)
next e (Context.body c m ps) = State.want (Context.rest e (Context.body c m ps))
next e (Context.value t k) = next (write t e) k
next e (Context.rest d k) = State.want (Context.rest e (Context.rest d k))
next e (Context.within b k) = State.want (Context.rest e (Context.within b k))

-- `=` was read
abbrev pub assign : Option Target → Context → Option State
assign none k = none
assign (some t) k = some (State.want (Context.value t k))

-- an expression of several tokens begins
abbrev pub opens : Opening → Context → State
opens Opening.if k = State.want (Context.within Bracket.condition k)
opens Opening.while k = State.want (Context.within Bracket.guard k)
opens Opening.new k = State.newed k

-- an expression goes on
abbrev pub joins : Joint → Bare → Context → Option State
joins Joint.semicolon e k = some (next e k)
joins Joint.equals e k = assign (target_of e) k
joins Joint.dot e k = cond (nat_le (level e) operand) (some (State.dotted e k)) none
joins Joint.instance_of e k = cond (nat_le (level e) test) (some (State.tested e k)) none

-- an item begins
abbrev pub begins : Context → Role → Option State
begins k (Role.name x) = some (State.have (Expr.local tt x) k)
begins k (Role.leaf l) = some (State.have (leaf_tree l) k)
begins k (Role.opening o) = some (opens o k)
begins k (Role.joint j) = none
begins k (Role.stop s) = none

-- an expression was read
abbrev pub follows : Bare → Context → Role → Option State
follows e k (Role.name x) = none
follows e k (Role.leaf l) = none
follows e k (Role.opening o) = none
follows e k (Role.joint j) = joins j e k
follows e k (Role.stop s) = ending e k s

-- a name is wanted
abbrev pub naming : (List ℕ → State) → Role → Option State
naming f (Role.name x) = some (f x)
naming f (Role.leaf l) = none
naming f (Role.opening o) = none
naming f (Role.joint j) = none
naming f (Role.stop s) = none

-- only the token `wanted` may come
abbrev pub only : Stop → State → Role → Option State
only wanted x (Role.name y) = none
only wanted x (Role.leaf l) = none
only wanted x (Role.opening o) = none
only wanted x (Role.joint j) = none
only wanted x (Role.stop s) = on wanted s (some x) none

-- one of two tokens may come
abbrev pub either : Stop → State → Stop → State → Role → Option State
either wanted x other y (Role.name z) = none
either wanted x other y (Role.leaf l) = none
either wanted x other y (Role.opening o) = none
either wanted x other y (Role.joint j) = none
either wanted x other y (Role.stop s) = on wanted s (some x) (on other s (some y) none)

-- the first argument begins, or there is none
abbrev pub argues : Callee → Context → Role → Option State
argues f k (Role.name x) = begins (Context.within (Bracket.argument f Args.none) k) (Role.name x)
argues f k (Role.leaf l) = begins (Context.within (Bracket.argument f Args.none) k) (Role.leaf l)
argues f k (Role.opening o) = begins (Context.within (Bracket.argument f Args.none) k) (Role.opening o)
argues f k (Role.joint j) = none
argues f k (Role.stop s) = on Stop.close s (some (State.have (call f Args.none) k)) none

-- the first parameter, or `)`
abbrev pub lists : BareClass → List ℕ → Role → Option State
lists c m (Role.name x) = some (State.define (Stage.parameter c m [] x))
lists c m (Role.leaf l) = none
lists c m (Role.opening o) = none
lists c m (Role.joint j) = none
lists c m (Role.stop s) = on Stop.close s (some (State.want (Context.body c m []))) none

-- a token of a class, outside the bodies
abbrev pub defines : Stage → Role → Option State
defines Stage.start ρ = only Stop.class (State.define Stage.class) ρ
defines Stage.class ρ = naming (λ c. State.define (Stage.class_name c)) ρ
defines (Stage.class_name c) ρ = only Stop.less (State.define (Stage.less c)) ρ
defines (Stage.less c) ρ = naming (λ p. State.define (Stage.parent c p)) ρ
defines (Stage.parent c p) ρ = only Stop.begin (State.define (Stage.members (record { name = c; parent = p; methods = [] }))) ρ
defines (Stage.members c) ρ = either Stop.def (State.define (Stage.def c)) Stop.end (State.define (Stage.end c)) ρ
defines (Stage.def c) ρ = naming (λ m. State.define (Stage.method_name c m)) ρ
defines (Stage.method_name c m) ρ = only Stop.open' (State.define (Stage.open' c m)) ρ
defines (Stage.open' c m) ρ = lists c m ρ
defines (Stage.parameter c m ps p) ρ =
    either Stop.close (State.want (Context.body c m (ps ++ (p ∷ [])))) Stop.comma (State.define (Stage.comma c m (ps ++ (p ∷ [])))) ρ
defines (Stage.comma c m ps) ρ = naming (λ p. State.define (Stage.parameter c m ps p)) ρ
defines (Stage.end c) ρ = none

-- the state after a token of that role, if it may come
abbrev pub takes : State → Role → Option State
takes (State.want k) ρ = begins k ρ
takes (State.have e k) ρ = follows e k ρ
takes (State.dotted e k) ρ = naming (λ m. State.named (Callee.method e m) k) ρ
takes (State.tested e k) ρ = naming (λ c. State.have (Expr.instance_of tt e c) k) ρ
takes (State.newed k) ρ = naming (λ c. State.named (Callee.new c) k) ρ
takes (State.named f k) ρ = only Stop.open' (State.opened f k) ρ
takes (State.opened f k) ρ = argues f k ρ
takes (State.define p) ρ = defines p ρ

-- the state after the token, if it may come
abbrev pub step : State → Terminal → Option State
step s t = takes s (role t)

-- the text ends behind an expression
abbrev pub over : Bare → Context → Outcome
over e Context.whole = Outcome.accepted (Text.rule e)
over e (Context.body c m ps) = Outcome.refused []
over e (Context.value t k) = over (write t e) k
over e (Context.rest d k) = over (Expr.seq tt d e) k
over e (Context.within b k) = Outcome.refused []

-- the text ends outside the bodies of a class
abbrev pub over_at : Stage → Outcome
over_at Stage.start = Outcome.refused []
over_at Stage.class = Outcome.refused []
over_at (Stage.class_name c) = Outcome.refused []
over_at (Stage.less c) = Outcome.refused []
over_at (Stage.parent c p) = Outcome.refused []
over_at (Stage.members c) = Outcome.refused []
over_at (Stage.def c) = Outcome.refused []
over_at (Stage.method_name c m) = Outcome.refused []
over_at (Stage.open' c m) = Outcome.refused []
over_at (Stage.parameter c m ps p) = Outcome.refused []
over_at (Stage.comma c m ps) = Outcome.refused []
over_at (Stage.end c) = Outcome.accepted (Text.class c)

-- the text ends
abbrev pub finish : State → Outcome
finish (State.want k) = Outcome.refused []
finish (State.have e k) = over e k
finish (State.dotted e k) = Outcome.refused []
finish (State.tested e k) = Outcome.refused []
finish (State.newed k) = Outcome.refused []
finish (State.named f k) = Outcome.refused []
finish (State.opened f k) = Outcome.refused []
finish (State.define p) = over_at p

-- a step was tried: `again` runs what is behind its token
abbrev pub went : (State → Outcome) → List Terminal → Option State → Outcome
went again ts none = Outcome.refused ts
went again ts (some s) = again s

-- the tokens in order, up to the first that may not come
unfoldable pub run : List Terminal → State → Outcome
run [] s = finish s
run (t ∷ ts) s = went (run ts) (t ∷ ts) (step s t)

-- where a text of that kind begins
abbrev pub initial : Kind → State
initial Kind.rule = State.want Context.whole
initial Kind.class = State.define Stage.start

-- what the machine says of a text's tokens
abbrev pub parse : Kind → List Terminal → Outcome
parse κ ts = run ts (initial κ)
