-- What the parser's functions promise of what they read. Assumes nothing.
use Rattle.std.specs.Prelude.{◌≡◌, ℕ, ◌+◌, ◌<◌, ◌≤◌, List, [], ◌∷◌, length, drop, slice_set}
use Rattle.std.proofs.Math.Option.{some}
use Rattle.lexer.specs.Token.{Terminal, identifier, integer, field, string, keyword, symbol}
use Rattle.lexer.specs.declared.token.Keyword.TheVariants as word
use Rattle.lexer.specs.declared.token.Symbol.TheVariants as sign
use Rattle.text.specs.declared.span.Span.{Span}
use Rattle.text.specs.Memory.{Memory}
use Rattle.grammar.specs.Tree.{Expr, Args}
use Rattle.grammar.specs.Grammar.{level}
use Rattle.grammar.specs.Machine.{Target, target_of, Callee, call, Bracket, Context, room, State, Outcome, run}
use Rattle.grammar.specs.Following.{Calm, Last, First}
use Rattle.grammar.specs.Notes.{note_of, forget, forget_args, first, annotate, annotate_args}
use Rattle.grammar.specs.Measure.{count, learn}
use Rattle.nodes.specs.declared.node.Node.{Node}
use Rattle.stack.specs.declared.Stack.{Stack}
use Rattle.syntax.specs.declared.table.Table.{Table}
use Rattle.syntax.specs.declared.read.Variable.{Variable}
use Rattle.syntax.specs.declared.read.Variable.TheVariants as variable
use Rattle.syntax.specs.declared.read.Size.{Size}
use Rattle.syntax.specs.declared.read.Got.{Got}
use Rattle.syntax.specs.declared.read.Given.{Given}
use Rattle.nodes.specs.declared.node.Form.{Form}
use Rattle.nodes.specs.declared.node.Form.TheVariants as form
use Rattle.syntax.specs.declared.read.Target as declared
use Rattle.syntax.specs.Left.{left, terms, places}
use Rattle.syntax.specs.Sight.{slice}
use Rattle.nodes.specs.Trees.{Lies, at, TreeAt, ArgsAt}
use Rattle.syntax.specs.Sizes.{side_by_side, of_list, Remains, Knows, Measured, MeasuredWithin, MeasuredList}

-- q is behind some of the tokens from p on
pub record Ahead (text : List ℕ) (p q : ℕ) : Type 0 where
  pub past : ℕ
  pub is : left text q ≡ drop past (left text p)

-- the token that a target is
abbrev pub target_token : Target → Terminal
target_token (Target.local x) = identifier x
target_token (Target.field x) = field x

-- what a target seen in the text is written to
abbrev pub named : Variable → List ℕ → Target
named variable.Local x = Target.local x
named variable.Field x = Target.field x

abbrev pub meant : List ℕ → declared.Target → Target
meant text t = named t.variable (slice text t.from t.to)

-- the target t and `=` stand next behind p
pub record Writes (text : List ℕ) (p : ℕ) (t : declared.Target) : Type 0 where
  pub place : ℕ
  pub target : left text p ≡ record { token = target_token (meant text t); place = t.from } ∷ left text t.to
  pub equals : left text t.to ≡ record { token = symbol sign.Equals; place = place } ∷ left text t.value

-- the token can be written to
abbrev pub IsTarget : Terminal → Type 0
IsTarget (identifier x) = Unit {0}
IsTarget (integer w) = ⊥
IsTarget (field x) = Unit {0}
IsTarget (string w) = ⊥
IsTarget (keyword k) = ⊥
IsTarget (symbol s) = ⊥

-- the tokens do not begin with a target and `=`
abbrev pub NoWrite : List Terminal → Type 0
NoWrite [] = Unit {0}
NoWrite (t ∷ r) = IsTarget t → First (symbol sign.Equals) r → ⊥

-- the form of a write to a field or a local
abbrev pub written_form : Variable → Span → ℕ → Form
written_form variable.Local s r = form.SetLocal s r
written_form variable.Field s r = form.SetField s r

-- the names with that of the target, which a field's is none of
abbrev pub learn_target : List (List ℕ) → Target → List (List ℕ)
learn_target ns (Target.local x) = learn ns x
learn_target ns (Target.field x) = ns

pub record LearnsTarget (text : List ℕ) (us vs : Stack Span) (t : Target) : Type 0 where
  pub learns : (ns : List (List ℕ)) → Knows text us ns → Knows text vs (learn_target ns t)

-- the tokens from p up to q are the expression e of level l at most, with its places
pub record Reads (l : ℕ) (text : List ℕ) (p q : ℕ) (e : Expr ℕ) : Type 0 where
  pub low : level (forget e) ≤ l
  pub way : (k : Context) → l ≤ room k → run (terms text p) (State.want k) ≡ run (terms text q) (State.have (forget e) k)
  pub noted : annotate 0 (forget e) (places text p) ≡ record { tree = e; rest = places text q }
  pub plain : (t : Target) → target_of (forget e) ≡ some t → terms text p ≡ target_token t ∷ terms text q
  pub ahead : Ahead text p q

-- what lay in the table is as it was
pub record Kept (xs ys : Table Node) : Type 0 where
  pub below : (j : ℕ) → j < xs.count → at ys.items.now j ≡ at xs.items.now j
  pub room : length ys.items.now ≡ length xs.items.now
  pub lender : ys.items.ghost_name ≡ xs.items.ghost_name

-- the expression stands in the table, if that has room, and what lay there has not changed
pub record Built (text : List ℕ) (base : ℕ) (xs ys : Table Node) (g : Got) (e : Expr ℕ) : Type 0 where
  pub place : g.place ≡ note_of e
  pub kept : Kept xs ys
  pub held : ys.count ≤ length ys.items.now → (m : Memory) → Lies m text base → TreeAt m ys.items.now g.root e

-- an expression of level l at most was read from p on
pub record Parsed (l : ℕ) (text : List ℕ) (base p : ℕ) (xs ys : Table Node) (us vs : Stack Span) (g : Got) : Type 0 where
  pub tree : Expr ℕ
  pub reads : Reads l text p g.to tree
  pub built : Built text base xs ys g tree
  pub measured : Measured text xs ys us vs g tree

-- where an expression of level l is wanted, the first token from p on that no tree has there stands at the place e
pub record Refused (l : ℕ) (text : List ℕ) (p e : ℕ) : Type 0 where
  pub from : ℕ
  pub ahead : Ahead text p from
  pub place : e ≡ first (length text) (places text from)
  pub way : (k : Context) → l ≤ room k → run (terms text p) (State.want k) ≡ Outcome.refused (terms text from)

-- an operand, and no call follows
pub record Operand (text : List ℕ) (base p : ℕ) (xs ys : Table Node) (us vs : Stack Span) (g : Got) : Type 0 where
  pub parsed : Parsed 1 text base p xs ys us vs g
  pub no-dot : First (symbol sign.Dot) (terms text g.to) → ⊥

-- an operand or some tests of one: a call follows none that has tests
pub record Testing (text : List ℕ) (base p : ℕ) (xs ys : Table Node) (us vs : Stack Span) (g : Got) : Type 0 where
  pub parsed : Parsed 2 text base p xs ys us vs g
  pub dot : First (symbol sign.Dot) (terms text g.to) → 1 < level (forget parsed.tree)

-- a test, and no further one follows
pub record Tested (text : List ℕ) (base p : ℕ) (xs ys : Table Node) (us vs : Stack Span) (g : Got) : Type 0 where
  pub testing : Testing text base p xs ys us vs g
  pub no_test : First (keyword word.InstanceOf) (terms text g.to) → ⊥

-- an item, with which the tokens do not go on
pub record Item (text : List ℕ) (base p : ℕ) (xs ys : Table Node) (us vs : Stack Span) (g : Got) : Type 0 where
  pub parsed : Parsed 3 text base p xs ys us vs g
  pub calm : Calm (forget parsed.tree) (terms text g.to)

-- a sequence, and no further item follows
pub record Sequence (text : List ℕ) (base p : ℕ) (xs ys : Table Node) (us vs : Stack Span) (g : Got) : Type 0 where
  pub parsed : Parsed 4 text base p xs ys us vs g
  pub calm : Calm (forget parsed.tree) (terms text g.to)
  pub last : Last (terms text g.to)

-- arguments stand in the table, if that has room
pub record Stored (text : List ℕ) (base : ℕ) (xs ys : Table Node) (g : Given) (es : Args ℕ) : Type 0 where
  pub many : g.arguments.count ≡ count es
  pub four : length g.arguments.roots ≡ 4
  pub kept : Kept xs ys
  pub held : ys.count ≤ length ys.items.now → (m : Memory) → Lies m text base → ArgsAt m ys.items.now ys.count g.arguments.roots es

-- behind a callee's `(` at p: arguments, the last of which may go on
pub record Arguing (text : List ℕ) (base p : ℕ) (xs ys : Table Node) (us vs : Stack Span) (g : Given) : Type 0 where
  pub before : Args ℕ
  pub tree : Expr ℕ
  pub way : (f : Callee) (k : Context) → run (terms text p) (State.opened f k) ≡ run (terms text g.to) (State.have (forget tree) (Context.within (Bracket.argument f (forget_args before)) k))
  pub noted : annotate_args 0 (forget_args (Args.more before tree)) (places text p) ≡ record { tree = Args.more before tree; rest = places text g.to }
  pub ahead : Ahead text p g.to
  pub calm : Calm (forget tree) (terms text g.to)
  pub last : Last (terms text g.to)
  pub stored : Stored text base xs ys g (Args.more before tree)
  pub measured : MeasuredWithin text xs ys us vs g (Args.more before tree)

-- behind a callee's `(` at p: arguments and `)`
pub record Argued (text : List ℕ) (base p : ℕ) (xs ys : Table Node) (us vs : Stack Span) (g : Given) : Type 0 where
  pub args : Args ℕ
  pub way : (f : Callee) (k : Context) → run (terms text p) (State.opened f k) ≡ run (terms text g.to) (State.have (call f (forget_args args)) k)
  pub closed : ℕ
  pub noted : annotate_args 0 (forget_args args) (places text p) ≡ record { tree = args; rest = closed ∷ places text g.to }
  pub ahead : Ahead text p g.to
  pub stored : Stored text base xs ys g args
  pub measured : MeasuredList text xs ys us vs g args

-- behind a callee's `(` at p: the refused token stands at the place e
pub record RefusedArgs (text : List ℕ) (p e : ℕ) : Type 0 where
  pub from : ℕ
  pub ahead : Ahead text p from
  pub place : e ≡ first (length text) (places text from)
  pub way : (f : Callee) (k : Context) → run (terms text p) (State.opened f k) ≡ Outcome.refused (terms text from)

-- what was lent stays its lender's, and as long as it was
pub record Lent (xs ys : Table Node) (us vs : Stack Span) : Type 0 where
  pub lender : ys.items.ghost_name ≡ xs.items.ghost_name
  pub long : length ys.items.now ≡ length xs.items.now
  pub names : Remains us vs

-- the place moves on, by at least as much as the count of nodes; the root is a new node
pub record Moves (text : List ℕ) (p : ℕ) (xs ys : Table Node) (g : Got) : Type 0 where
  pub on : p < g.to
  pub inside : g.to ≤ length text
  pub few : ys.count + p ≤ g.to + xs.count
  pub new : xs.count ≤ g.root
  pub root : g.root < ys.count

-- the same of arguments, which need no node of their own
pub record MovesArgs (text : List ℕ) (p : ℕ) (xs ys : Table Node) (g : Given) : Type 0 where
  pub on : p < g.to
  pub inside : g.to ≤ length text
  pub few : ys.count + p ≤ g.to + xs.count
  pub more : xs.count ≤ ys.count
  pub count : g.arguments.count + p ≤ g.to

-- what a node put into the table gives
pub record Put (xs ys : Table Node) (node : Node) (to : ℕ) (size : Size) (g : Got) : Type 0 where
  pub to_is : g.to ≡ to
  pub counted : ys.count ≡ xs.count + 1
  pub root : g.root ≡ xs.count
  pub place : g.place ≡ node.place
  pub size_is : g.size ≡ size
  pub items : ys.items.now ≡ slice_set xs.items.now xs.count node
  pub lender : ys.items.ghost_name ≡ xs.items.ghost_name

-- what one more argument gives
pub record With (a : Given) (e : Got) (g : Given) : Type 0 where
  pub to_is : g.to ≡ e.to
  pub many : g.arguments.count ≡ a.arguments.count + 1
  pub roots : g.arguments.roots ≡ slice_set a.arguments.roots a.arguments.count e.root
  pub size_is : g.size ≡ side_by_side a.size e.size

-- what the `)` behind arguments gives
pub record Closed (a : Given) (to : ℕ) (g : Given) : Type 0 where
  pub to_is : g.to ≡ to
  pub same : g.arguments ≡ a.arguments
  pub size_is : g.size ≡ of_list a.arguments.count a.size
