-- What the parser measures of what it reads. Assumes nothing.
use Rattle.std.specs.Prelude.{◌≡◌, ℕ, ◌+◌, ◌≤◌, min, max, ◌&&◌, List, [], map, take, Decides, nat_le}
use Rattle.text.specs.declared.span.Span.{Span}
use Rattle.text.specs.Memory.{Memory, bytes_of}
use Rattle.grammar.specs.Tree.{Expr, Args}
use Rattle.grammar.specs.Measure.{nodes, arg_nodes, depth, arg_depth, count, most_arguments, most_within, longest_string, longest_within, IntegersFit, IntegersFitIn, learn, names_after, names_after_args}
use Rattle.grammar.specs.Limits.{string_limit, argument_limit, name_limit}
use Rattle.nodes.specs.declared.node.Node.{Node}
use Rattle.stack.specs.declared.Stack.{Stack}
use Rattle.stack.specs.Held.{held, room}
use Rattle.syntax.specs.declared.table.Table.{Table}
use Rattle.syntax.specs.declared.read.Size.{Size}
use Rattle.syntax.specs.declared.read.Got.{Got}
use Rattle.syntax.specs.declared.read.Given.{Given}

-- the size of what stands around a part
abbrev pub around : Size → Size
around s = record { depth = min 17 (s.depth + 1); small = s.small }

-- the size of two parts side by side
abbrev pub side_by_side : Size → Size → Size
side_by_side s t = record { depth = max s.depth t.depth; small = s.small && t.small }

-- the size of a whole list of so many arguments
abbrev pub of_list : ℕ → Size → Size
of_list n s = record { depth = s.depth; small = nat_le n argument_limit && s.small }

-- the literals of the expression and its lists of arguments are within the limits
pub record Small (e : Expr ℕ) : Type 0 where
  pub integers : IntegersFit e
  pub strings : longest_string e ≤ string_limit
  pub arguments : most_arguments e ≤ argument_limit

-- the same of each argument
pub record SmallWithin (es : Args ℕ) : Type 0 where
  pub integers : IntegersFitIn es
  pub strings : longest_within es ≤ string_limit
  pub arguments : most_within es ≤ argument_limit

-- and of the list itself
pub record SmallList (es : Args ℕ) : Type 0 where
  pub few : count es ≤ argument_limit
  pub each : SmallWithin es

-- the size is the expression's; the depth 17 stands for all that is deeper than 16
pub record Sized (s : Size) (e : Expr ℕ) : Type 0 where
  pub deep : s.depth ≡ min 17 (depth e)
  pub small : Decides s.small (Small e)

pub record SizedWithin (s : Size) (es : Args ℕ) : Type 0 where
  pub deep : s.depth ≡ min 17 (arg_depth es)
  pub small : Decides s.small (SmallWithin es)

pub record SizedList (s : Size) (es : Args ℕ) : Type 0 where
  pub deep : s.depth ≡ min 17 (arg_depth es)
  pub small : Decides s.small (SmallList es)

-- the memory that has nothing but the text
abbrev pub lone : List ℕ → Memory
lone text = record { fixed = []; texts = text; made = [] }

-- the spans held are the names, each by its bytes, as far as there is room: for one more than the limit
pub record Knows (text : List ℕ) (us : Stack Span) (ns : List (List ℕ)) : Type 0 where
  pub room : room us ≡ name_limit + 1
  pub words : map (bytes_of (lone text)) (held us) ≡ take (name_limit + 1) ns

-- the names' slice stays its lender's, and as long as it was
pub record Remains (us vs : Stack Span) : Type 0 where
  pub lender : vs.items.ghost_name ≡ us.items.ghost_name
  pub room : room vs ≡ room us

-- one more name was learnt
pub record Learns (text : List ℕ) (us vs : Stack Span) (x : List ℕ) : Type 0 where
  pub learns : (ns : List (List ℕ)) → Knows text us ns → Knows text vs (learn ns x)

-- the nodes that were counted and the names that were learnt are the expression's
pub record Measured (text : List ℕ) (xs ys : Table Node) (us vs : Stack Span) (g : Got) (e : Expr ℕ) : Type 0 where
  pub counted : ys.count ≡ xs.count + nodes e
  pub sized : Sized g.size e
  pub named : (ns : List (List ℕ)) → Knows text us ns → Knows text vs (names_after ns e)

-- the same of arguments, before their list is closed
pub record MeasuredWithin (text : List ℕ) (xs ys : Table Node) (us vs : Stack Span) (g : Given) (es : Args ℕ) : Type 0 where
  pub counted : ys.count ≡ xs.count + arg_nodes es
  pub sized : SizedWithin g.size es
  pub named : (ns : List (List ℕ)) → Knows text us ns → Knows text vs (names_after_args ns es)

-- and of a whole list of them
pub record MeasuredList (text : List ℕ) (xs ys : Table Node) (us vs : Stack Span) (g : Given) (es : Args ℕ) : Type 0 where
  pub counted : ys.count ≡ xs.count + arg_nodes es
  pub sized : SizedList g.size es
  pub named : (ns : List (List ℕ)) → Knows text us ns → Knows text vs (names_after_args ns es)
