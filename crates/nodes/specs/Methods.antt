-- Methods in their table. Assumes nothing.
use Rattle.std.specs.Prelude.{◌≡◌, List, [], ◌∷◌, ℕ, ◌<◌, length, slice_index_or}
use Rattle.text.specs.declared.span.Space.TheVariants.{Texts}
use Rattle.text.specs.declared.span.Span.{Span}
use Rattle.text.specs.Memory.{Memory}
use Rattle.grammar.specs.Tree as tree
use Rattle.grammar.specs.Limits.{argument_limit}
use Rattle.nodes.specs.declared.node.Node.{Node}
use Rattle.nodes.specs.declared.node.Parameters.{Parameters}
use Rattle.nodes.specs.declared.node.Method.{Method}
use Rattle.nodes.specs.Trees.{WordAt, TreeAt}

abbrev pub no_span : Span
no_span = record { space = Texts; start = 0; len = 0 }

-- the parameters: how many there are, and the words of the first
pub record ParametersAt (m : Memory) (r : Parameters) (ps : List (List ℕ)) : Type 0 where
  pub many : r.count ≡ length ps
  pub words : (i : ℕ) → i < length ps → i < argument_limit → WordAt m (slice_index_or r.names i no_span) (slice_index_or ps i [])

-- the method is recorded so, and its body stands in the node table below n
pub record MethodAt (m : Memory) (xs : List Node) (n : ℕ) (r : Method) (d : tree.Method ℕ) : Type 0 where
  pub name : WordAt m r.name d.name
  pub parameters : ParametersAt m r.parameters d.parameters
  pub below : r.root < n
  pub body : TreeAt m xs r.root d.body

-- the methods stand in their order
abbrev pub MethodsAt : Memory → List Node → ℕ → List Method → List (tree.Method ℕ) → Type 0
MethodsAt m xs n rs [] = Unit {0}
MethodsAt m xs n [] (d ∷ ds) = ⊥
MethodsAt m xs n (r ∷ rs) (d ∷ ds) = MethodAt m xs n r d × MethodsAt m xs n rs ds
