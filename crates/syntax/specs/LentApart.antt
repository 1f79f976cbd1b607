-- What is promised where a table and the names are lent apart, each beside the number of what stands in it. Assumes nothing.
use Rattle.std.specs.Prelude.{◌≡◌, ℕ, ◌+◌, ◌<◌, ◌≤◌, min, Bool, true, false, List, map, length, take, slice_set}
use Rattle.text.specs.declared.span.Span.{Span}
use Rattle.text.specs.Memory.{Memory, bytes_of}
use Rattle.grammar.specs.Tree.{Expr}
use Rattle.grammar.specs.Limits.{name_limit}
use Rattle.grammar.specs.Machine.{Target}
use Rattle.grammar.specs.Following.{Calm, Last}
use Rattle.grammar.specs.Notes.{note_of, forget}
use Rattle.grammar.specs.Measure.{nodes, learn, names_after}
use Rattle.nodes.specs.declared.node.Node.{Node}
use Rattle.nodes.specs.declared.node.Form.{Form}
use Rattle.nodes.specs.declared.node.Form.TheVariants as form
use Rattle.nodes.specs.Trees.{Lies, at, TreeAt}
use Rattle.syntax.specs.declared.apart.Target as declared
use Rattle.syntax.specs.declared.apart.Got.{Got}
use Rattle.syntax.specs.declared.read.Size.{Size}
use Rattle.syntax.specs.Left.{terms}
use Rattle.syntax.specs.Sight.{slice}
use Rattle.syntax.specs.Sizes.{lone, Sized}
use Rattle.syntax.specs.Parsing.{learn_target, Reads}

-- the first m spans are the names, each by its bytes; 17 stands for all that is more than 16, and then the spans say nothing
pub record Knows (text : List ℕ) (us : List Span) (m : ℕ) (ns : List (List ℕ)) : Type 0 where
  pub room : length us ≡ name_limit
  pub many : m ≡ min 17 (length ns)
  pub words : m ≤ name_limit → map (bytes_of (lone text)) (take m us) ≡ ns

-- one more name was learnt
pub record Learns (text : List ℕ) (us vs : List Span) (m : ℕ) (x : List ℕ) (r : ℕ) : Type 0 where
  pub learns : (ns : List (List ℕ)) → Knows text us m ns → Knows text vs r (learn ns x)

-- what a target seen in the text is written to
abbrev pub named : Bool → List ℕ → Target
named false x = Target.local x
named true x = Target.field x

abbrev pub meant : List ℕ → declared.Target → Target
meant text t = named t.field (slice text t.from t.to)

pub record LearnsTarget (text : List ℕ) (us vs : List Span) (m : ℕ) (t : Target) (r : ℕ) : Type 0 where
  pub learns : (ns : List (List ℕ)) → Knows text us m ns → Knows text vs r (learn_target ns t)

-- the form of a write to a field or a local
abbrev pub written_form : Bool → Span → ℕ → Form
written_form false s r = form.SetLocal s r
written_form true s r = form.SetField s r

-- what was counted from n nodes and m names on is the expression's
pub record Measured (text : List ℕ) (us vs : List Span) (n m : ℕ) (g : Got) (e : Expr ℕ) : Type 0 where
  pub counted : g.nodes ≡ n + nodes e
  pub sized : Sized g.size e
  pub named : (ns : List (List ℕ)) → Knows text us m ns → Knows text vs g.names (names_after ns e)

-- what lies below n is as it was
pub record Kept (xs ys : List Node) (n : ℕ) : Type 0 where
  pub below : (j : ℕ) → j < n → at ys j ≡ at xs j

-- the expression stands in the table, if that has room, and nothing below n has changed
pub record Built (text : List ℕ) (base : ℕ) (xs ys : List Node) (n : ℕ) (g : Got) (e : Expr ℕ) : Type 0 where
  pub place : g.place ≡ note_of e
  pub kept : Kept xs ys n
  pub held : g.nodes ≤ length ys → (m : Memory) → Lies m text base → TreeAt m ys g.root e

-- an expression of level l at most was read from p on
pub record Parsed (l : ℕ) (text : List ℕ) (base p : ℕ) (xs ys : List Node) (us vs : List Span) (n m : ℕ) (g : Got) : Type 0 where
  pub tree : Expr ℕ
  pub reads : Reads l text p g.to tree
  pub built : Built text base xs ys n g tree
  pub measured : Measured text us vs n m g tree

-- a sequence, and no further item follows
pub record Sequence (text : List ℕ) (base p : ℕ) (xs ys : List Node) (us vs : List Span) (n m : ℕ) (g : Got) : Type 0 where
  pub parsed : Parsed 4 text base p xs ys us vs n m g
  pub calm : Calm (forget parsed.tree) (terms text g.to)
  pub last : Last (terms text g.to)

-- the place moves on, by at least as much as the count of nodes; the root is a new node
pub record Moves (text : List ℕ) (p n : ℕ) (g : Got) : Type 0 where
  pub on : p < g.to
  pub inside : g.to ≤ length text
  pub few : g.nodes + p ≤ g.to + n
  pub new : n ≤ g.root
  pub root : g.root < g.nodes

-- what a node put into the table gives
pub record Put (xs ys : List Node) (n m : ℕ) (node : Node) (to : ℕ) (size : Size) (g : Got) : Type 0 where
  pub to_is : g.to ≡ to
  pub counted : g.nodes ≡ n + 1
  pub known : g.names ≡ m
  pub root : g.root ≡ n
  pub place : g.place ≡ node.place
  pub size_is : g.size ≡ size
  pub table : ys ≡ slice_set xs n node
