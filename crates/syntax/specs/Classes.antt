-- What the parser's functions promise of methods and classes. Assumes nothing.
use Rattle.std.specs.Prelude.{◌≡◌, ℕ, ◌+◌, ◌-◌, ◌*◌, ◌≤◌, List, [], ◌∷◌, ◌++◌, length, drop, Decides, slice_set}
use Rattle.text.specs.declared.span.Span.{Span}
use Rattle.text.specs.Memory.{Memory}
use Rattle.grammar.specs.Tree.{Expr, BareClass}
use Rattle.grammar.specs.Tree as tree
use Rattle.grammar.specs.Machine.{Context, Stage, State, Outcome, run, with_method}
use Rattle.grammar.specs.Notes.{forget, forget_methods, first, annotate_method, annotate_methods}
use Rattle.grammar.specs.Measure.{nodes, method_nodes, learn_all, BodyWithin, MethodsWithin}
use Rattle.nodes.specs.declared.node.Node.{Node}
use Rattle.syntax.specs.declared.read.Listed.{Listed}
use Rattle.nodes.specs.declared.node.Method.{Method}
use Rattle.syntax.specs.declared.read.Defined.{Defined}
use Rattle.stack.specs.declared.Stack.{Stack}
use Rattle.syntax.specs.declared.table.Table.{Table}
use Rattle.syntax.specs.declared.read.Judged.{Judged}
use Rattle.nodes.specs.Methods.{ParametersAt, MethodAt, MethodsAt}
use Rattle.syntax.specs.Left.{left, terms, places}
use Rattle.syntax.specs.Sight.{slice}
use Rattle.nodes.specs.Trees.{Lies, span_of}
use Rattle.syntax.specs.Sizes.{Knows, Learns}
use Rattle.syntax.specs.Parsing.{Ahead, Kept}

-- q is behind k of the tokens from p on
pub record Past (text : List ℕ) (p k q : ℕ) : Type 0 where
  pub is : left text q ≡ drop k (left text p)

-- behind a method's `(` at p: parameters, the last of which may be followed by another
pub record Listing (text : List ℕ) (base p : ℕ) (us vs : Stack Span) (g : Listed) : Type 0 where
  pub before : List (List ℕ)
  pub last : List ℕ
  pub way : (c : BareClass) (d : List ℕ) → run (terms text p) (State.define (Stage.open' c d)) ≡ run (terms text g.to) (State.define (Stage.parameter c d before last))
  pub past : Past text p (2 * length before + 1) g.to
  pub four : length g.parameters.names ≡ 4
  pub many : g.parameters.count ≡ length before + 1
  pub held : (m : Memory) → Lies m text base → ParametersAt m g.parameters (before ++ (last ∷ []))
  pub named : Knows text us [] → Knows text vs (learn_all [] (before ++ (last ∷ [])))

-- behind a method's `(` at p: parameters and `)`
pub record ParametersRead (text : List ℕ) (base p : ℕ) (us vs : Stack Span) (g : Listed) : Type 0 where
  pub names : List (List ℕ)
  pub way : (c : BareClass) (d : List ℕ) → run (terms text p) (State.define (Stage.open' c d)) ≡ run (terms text g.to) (State.want (Context.body c d names))
  pub past : Past text p (2 * length names - 1 + 1) g.to
  pub held : (m : Memory) → Lies m text base → ParametersAt m g.parameters names
  pub many : g.parameters.count ≡ length names
  pub named : Knows text us [] → Knows text vs (learn_all [] names)

-- behind a method's `(` at p: the refused token stands at the place e
pub record ParametersRefused (text : List ℕ) (p e : ℕ) : Type 0 where
  pub from : ℕ
  pub ahead : Ahead text p from
  pub place : e ≡ first (length text) (places text from)
  pub way : (c : BareClass) (d : List ℕ) → run (terms text p) (State.define (Stage.open' c d)) ≡ Outcome.refused (terms text from)

-- behind `def` at p: a method up to its `end`; f is the place of the `def`
pub record MethodRead (text : List ℕ) (base p : ℕ) (xs ys : Table Node) (g : Defined) : Type 0 where
  pub method : tree.Method ℕ
  pub way : (c : BareClass) → run (terms text p) (State.define (Stage.def c)) ≡ run (terms text g.to) (State.define (Stage.members (with_method c method.name method.parameters (forget method.body))))
  pub noted : (f : ℕ) → annotate_method 0 (record { name = method.name; parameters = method.parameters; body = forget method.body }) (f ∷ places text p) ≡ record { tree = method; rest = places text g.to }
  pub ahead : Ahead text p g.to
  pub kept : Kept xs ys
  pub held : ys.count ≤ length ys.items.now → (m : Memory) → Lies m text base → MethodAt m ys.items.now ys.count g.method method
  pub counted : ys.count ≡ xs.count + nodes method.body

-- the same, with what is measured of it
pub record MethodMeasured (text : List ℕ) (base p : ℕ) (xs ys : Table Node) (g : Judged Defined) : Type 0 where
  pub read : MethodRead text base p xs ys g.read
  pub within : Decides g.within (BodyWithin read.method.parameters read.method.body)

pub record MethodRefused (text : List ℕ) (p e : ℕ) : Type 0 where
  pub from : ℕ
  pub ahead : Ahead text p from
  pub place : e ≡ first (length text) (places text from)
  pub way : (c : BareClass) → run (terms text p) (State.define (Stage.def c)) ≡ Outcome.refused (terms text from)

-- the class of that name and parent, with these methods
abbrev pub class_with : List ℕ → List ℕ → List (tree.Method ℕ) → BareClass
class_with x y ds = record { name = x; parent = y; methods = forget_methods ds }

-- behind `begin` at p: methods, up to q
pub record MembersRead (text : List ℕ) (base p : ℕ) (xs ys : Table Node) (rs ss : Table Method) (q : ℕ) : Type 0 where
  pub methods : List (tree.Method ℕ)
  pub way : (x y : List ℕ) → run (terms text p) (State.define (Stage.members (class_with x y []))) ≡ run (terms text q) (State.define (Stage.members (class_with x y methods)))
  pub noted : annotate_methods 0 (forget_methods methods) (places text p) ≡ record { tree = methods; rest = places text q }
  pub ahead : Ahead text p q
  pub many : ss.count ≡ length methods
  pub held : ys.count ≤ length ys.items.now → ss.count ≤ length ss.items.now → (m : Memory) → Lies m text base → MethodsAt m ys.items.now ys.count ss.items.now methods
  pub counted : ys.count ≡ method_nodes methods
  pub lenders : (ys.items.ghost_name ≡ xs.items.ghost_name) × (ss.items.ghost_name ≡ rs.items.ghost_name)

-- the same, with what is measured of them
pub record MembersMeasured (text : List ℕ) (base p : ℕ) (xs ys : Table Node) (rs ss : Table Method) (g : Judged ℕ) : Type 0 where
  pub read : MembersRead text base p xs ys rs ss g.read
  pub within : Decides g.within (MethodsWithin read.methods)

pub record MembersRefused (text : List ℕ) (p e : ℕ) : Type 0 where
  pub from : ℕ
  pub ahead : Ahead text p from
  pub place : e ≡ first (length text) (places text from)
  pub way : (x y : List ℕ) → run (terms text p) (State.define (Stage.members (class_with x y []))) ≡ Outcome.refused (terms text from)

-- what one more parameter gives
pub record Adds (text : List ℕ) (base : ℕ) (us vs : Stack Span) (a : Listed) (from to : ℕ) (g : Listed) : Type 0 where
  pub to_is : g.to ≡ to
  pub many : g.parameters.count ≡ a.parameters.count + 1
  pub names : g.parameters.names ≡ slice_set a.parameters.names a.parameters.count (span_of base from to)
  pub named : Learns text us vs (slice text from to)
