-- Trees in a node table. Assumes nothing.
use Rattle.std.specs.Prelude.{◌≡◌, List, ℕ, ℤ, ◌+◌, ◌-◌, ◌%◌, ◌^◌, ◌<◌, length, slice_index, slice_index_or}
use Rattle.text.specs.declared.span.Space.TheVariants.{Texts}
use Rattle.text.specs.declared.span.Span.{Span}
use Rattle.text.specs.Memory.{Memory, bytes_of}
use Rattle.grammar.specs.Tree.{Expr, Args}
use Rattle.grammar.specs.Measure.{Fits, value_of, count}
use Rattle.grammar.specs.Limits.{argument_limit}
use Rattle.nodes.specs.declared.node.Node.{Node}
use Rattle.nodes.specs.declared.node.Arguments.{Arguments}
use Rattle.nodes.specs.declared.node.Form.{Form}
use Rattle.nodes.specs.declared.node.Form.TheVariants.{Int, Nil, SelfWord, Str, Local, SetLocal, Field, SetField, If, While, Seq, New, InstanceOf, Invoke}

-- the memory of texts has the text from `base` on, where spans reach it
pub record Lies (m : Memory) (text : List ℕ) (base : ℕ) : Type 0 where
  pub reached : base + length text < 2 ^ 16
  pub same : (i : ℕ) → i < length text → slice_index m.texts (base + i) ≡ slice_index text i

-- the bytes `from` up to `to` of a text that begins at `base`
abbrev pub span_of : ℕ → ℕ → ℕ → Span
span_of base from to = record { space = Texts; start = (base + from) % 2 ^ 16; len = to - from }

-- the span has the bytes w in the memory of texts
abbrev pub WordAt : Memory → Span → List ℕ → Type 0
WordAt m s w = (s.space ≡ Texts) × (bytes_of m s ≡ w)

abbrev pub at : List Node → ℕ → Node
at xs i = slice_index_or xs i (record { place = 0; form = Nil })

-- the node i
abbrev pub NodeAt : List Node → ℕ → ℕ → Form → Type 0
NodeAt xs i p f = at xs i ≡ record { place = p; form = f }

abbrev mutual
  -- the tree stands at the node i, each part at a smaller index than the whole; a node has the place of its expression
  pub TreeAt : Memory → List Node → ℕ → Expr ℕ → Type 0
  TreeAt m xs i (Expr.int p w) = (v : ℤ) × NodeAt xs i p (Int v) × (Fits w → v ≡ value_of w)
  TreeAt m xs i (Expr.nil p) = NodeAt xs i p Nil
  TreeAt m xs i (Expr.self p) = NodeAt xs i p SelfWord
  TreeAt m xs i (Expr.string p w) = (s : Span) × NodeAt xs i p (Str s) × WordAt m s w
  TreeAt m xs i (Expr.local p x) = (s : Span) × NodeAt xs i p (Local s) × WordAt m s x
  TreeAt m xs i (Expr.set_local p x e) = (s : Span) × (j : ℕ) × NodeAt xs i p (SetLocal s j) × WordAt m s x × (j < i) × TreeAt m xs j e
  TreeAt m xs i (Expr.field p x) = (s : Span) × NodeAt xs i p (Field s) × WordAt m s x
  TreeAt m xs i (Expr.set_field p x e) = (s : Span) × (j : ℕ) × NodeAt xs i p (SetField s j) × WordAt m s x × (j < i) × TreeAt m xs j e
  TreeAt m xs i (Expr.if_then_else p a b c) =
      (j : ℕ) × (k : ℕ) × (l : ℕ) × NodeAt xs i p (If j k l) × (j < i) × TreeAt m xs j a × (k < i) × TreeAt m xs k b × (l < i) × TreeAt m xs l c
  TreeAt m xs i (Expr.while_do p a b) = (j : ℕ) × (k : ℕ) × NodeAt xs i p (While j k) × (j < i) × TreeAt m xs j a × (k < i) × TreeAt m xs k b
  TreeAt m xs i (Expr.seq p a b) = (j : ℕ) × (k : ℕ) × NodeAt xs i p (Seq j k) × (j < i) × TreeAt m xs j a × (k < i) × TreeAt m xs k b
  TreeAt m xs i (Expr.new p x es) =
      (s : Span) × (r : Arguments) × NodeAt xs i p (New s r) × WordAt m s x × (r.count ≡ count es) × ArgsAt m xs i r.roots es
  TreeAt m xs i (Expr.instance_of p e x) = (j : ℕ) × (s : Span) × NodeAt xs i p (InstanceOf j s) × WordAt m s x × (j < i) × TreeAt m xs j e
  TreeAt m xs i (Expr.invoke p e x es) =
      (j : ℕ) × (s : Span) × (r : Arguments) × NodeAt xs i p (Invoke j s r) × WordAt m s x × (j < i) × TreeAt m xs j e × (r.count ≡ count es) × ArgsAt m xs i r.roots es

  -- the first arguments, as many as a call may have, stand at these roots, below i
  pub ArgsAt : Memory → List Node → ℕ → List ℕ → Args ℕ → Type 0
  ArgsAt m xs i roots Args.none = Unit {0}
  ArgsAt m xs i roots (Args.more es e) =
      ArgsAt m xs i roots es × (count es < argument_limit → (slice_index roots (count es) < i) × TreeAt m xs (slice_index roots (count es)) e)
