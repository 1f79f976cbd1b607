-- What is promised of a whole text: the one tree that it has stands in the table, or it is refused. Assumes nothing.
use Rattle.std.specs.Prelude.{◌≡◌, ℕ, ◌<◌, ◌≤◌, List, length, Decides}
use Rattle.lexer.specs.Tokens.{Placed, Tokens, tokens}
use Rattle.text.specs.Memory.{Memory}
use Rattle.grammar.specs.Tree.{Expr, Text, BareText}
use Rattle.grammar.specs.Tree as tree
use Rattle.grammar.specs.Machine.{Outcome, parse}
use Rattle.grammar.specs.Grammar.{Kind, tokens_of, FormedText}
use Rattle.grammar.specs.Notes.{forget_text, annotate_text}
use Rattle.grammar.specs.Measure.{text_nodes, WithinLimits}
use Rattle.nodes.specs.declared.node.Node.{Node}
use Rattle.nodes.specs.declared.node.Method.{Method}
use Rattle.nodes.specs.declared.node.Class.{Class}
use Rattle.syntax.specs.declared.read.Judged.{Judged}
use Rattle.syntax.specs.declared.table.Table.{Table}
use Rattle.nodes.specs.declared.node.Rule.{Rule}
use Rattle.nodes.specs.declared.refusal.Refusal.{Refusal}
use Rattle.nodes.specs.declared.refusal.Refusal.TheVariants.{TooLong, Stray, Unexpected, OverLimit}
use Rattle.syntax.specs.Breaks.{text_limit, kinds, places_of, Lexes, Breaks}
use Rattle.syntax.specs.Left.{terms, places}
use Rattle.nodes.specs.Trees.{Lies, WordAt, TreeAt}
use Rattle.nodes.specs.Methods.{MethodsAt}

-- the text is written with this one tree, whose nodes have the places of their first tokens
pub record Written (κ : Kind) (text : List ℕ) (t : Text ℕ) : Type 0 where
  pub placed : List Placed
  pub lexes : Lexes text placed
  pub formed : FormedText κ (forget_text t)
  pub same : tokens_of (forget_text t) ≡ kinds placed
  pub noted : (annotate_text 0 (forget_text t) (places_of placed)).tree ≡ t
  pub only : (u : BareText) → FormedText κ u → tokens_of u ≡ kinds placed → u ≡ forget_text t

-- the rule that the text has stands at its root, if the table has room for it
pub record RuleStands (text : List ℕ) (base : ℕ) (nodes : List Node) (r : Rule) : Type 0 where
  pub tree : Expr ℕ
  pub written : Written Kind.rule text (Text.rule tree)
  pub counted : r.nodes ≡ text_nodes (Text.rule tree)
  pub held : r.nodes ≤ length nodes → (m : Memory) → Lies m text base → TreeAt m nodes r.root tree

-- and it is within the limits
pub record RuleWithin (text : List ℕ) (base : ℕ) (nodes : List Node) (r : Rule) : Type 0 where
  pub stands : RuleStands text base nodes r
  pub within : WithinLimits (Text.rule stands.tree)

-- or it is only known whether it is within the limits
pub record RuleJudged (text : List ℕ) (base : ℕ) (nodes : List Node) (g : Judged Rule) : Type 0 where
  pub stands : RuleStands text base nodes g.read
  pub within : Decides g.within (WithinLimits (Text.rule stands.tree))

-- the text has no tokens
abbrev pub Unlexed : List ℕ → Refusal → Type 0
Unlexed text TooLong = text_limit < length text
Unlexed text (Stray p) = (length text ≤ text_limit) × (tokens text ≡ Tokens.stray p)
Unlexed text (Unexpected p) = ⊥
Unlexed text OverLimit = ⊥

-- the text is refused so
abbrev pub TextRefused : Kind → List ℕ → Refusal → Type 0
TextRefused κ text TooLong = Unlexed text TooLong
TextRefused κ text (Stray p) = Unlexed text (Stray p)
TextRefused κ text (Unexpected p) = Breaks κ text p
TextRefused κ text OverLimit = ⊥

-- the text has one tree, which is not within the limits
pub record TooLarge (κ : Kind) (text : List ℕ) : Type 0 where
  pub tree : Text ℕ
  pub written : Written κ text tree
  pub over : WithinLimits tree → ⊥

-- the text is refused so, where a text that is over the limits is refused too
abbrev pub RefusedWithin : Kind → List ℕ → Refusal → Type 0
RefusedWithin κ text TooLong = TextRefused κ text TooLong
RefusedWithin κ text (Stray p) = TextRefused κ text (Stray p)
RefusedWithin κ text (Unexpected p) = TextRefused κ text (Unexpected p)
RefusedWithin κ text OverLimit = TooLarge κ text

-- the class that the text has: its names, and its methods in their order, if the tables have room for them
pub record ClassStands (text : List ℕ) (base : ℕ) (nodes : List Node) (methods : List Method) (r : Class) : Type 0 where
  pub class : tree.Class ℕ
  pub written : Written Kind.class text (Text.class class)
  pub counted : r.nodes ≡ text_nodes (Text.class class)
  pub many : r.methods ≡ length class.methods
  pub name : (m : Memory) → Lies m text base → WordAt m r.name class.name
  pub parent : (m : Memory) → Lies m text base → WordAt m r.parent class.parent
  pub held : r.nodes ≤ length nodes → r.methods ≤ length methods → (m : Memory) → Lies m text base → MethodsAt m nodes r.nodes methods class.methods

-- and it is within the limits
pub record ClassWithin (text : List ℕ) (base : ℕ) (nodes : List Node) (methods : List Method) (r : Class) : Type 0 where
  pub stands : ClassStands text base nodes methods r
  pub within : WithinLimits (Text.class stands.class)

-- or it is only known whether it is within the limits
pub record ClassJudged (text : List ℕ) (base : ℕ) (nodes : List Node) (methods : List Method) (g : Judged Class) : Type 0 where
  pub stands : ClassStands text base nodes methods g.read
  pub within : Decides g.within (WithinLimits (Text.class stands.class))

-- the rule in its table, as the machine reads it
pub record RuleRead (text : List ℕ) (base : ℕ) (xs ys : Table Node) (r : Rule) : Type 0 where
  pub tree : Expr ℕ
  pub way : parse Kind.rule (terms text 0) ≡ Outcome.accepted (forget_text (Text.rule tree))
  pub noted : (annotate_text 0 (forget_text (Text.rule tree)) (places text 0)).tree ≡ Text.rule tree
  pub counted : r.nodes ≡ text_nodes (Text.rule tree)
  pub held : r.nodes ≤ length ys.items.now → (m : Memory) → Lies m text base → TreeAt m ys.items.now r.root tree
  pub lender : ys.items.ghost_name ≡ xs.items.ghost_name

-- and with what is measured of it
pub record RuleMeasured (text : List ℕ) (base : ℕ) (xs ys : Table Node) (g : Judged Rule) : Type 0 where
  pub read : RuleRead text base xs ys g.read
  pub within : Decides g.within (WithinLimits (Text.rule read.tree))

-- the class in its tables, as the machine reads it
pub record ClassRead (text : List ℕ) (base : ℕ) (xs ys : Table Node) (rs ss : Table Method) (r : Class) : Type 0 where
  pub class : tree.Class ℕ
  pub way : parse Kind.class (terms text 0) ≡ Outcome.accepted (forget_text (Text.class class))
  pub noted : (annotate_text 0 (forget_text (Text.class class)) (places text 0)).tree ≡ Text.class class
  pub counted : r.nodes ≡ text_nodes (Text.class class)
  pub many : r.methods ≡ length class.methods
  pub name : (m : Memory) → Lies m text base → WordAt m r.name class.name
  pub parent : (m : Memory) → Lies m text base → WordAt m r.parent class.parent
  pub held : r.nodes ≤ length ys.items.now → r.methods ≤ length ss.items.now → (m : Memory) → Lies m text base → MethodsAt m ys.items.now r.nodes ss.items.now class.methods
  pub lenders : (ys.items.ghost_name ≡ xs.items.ghost_name) × (ss.items.ghost_name ≡ rs.items.ghost_name)

-- and with what is measured of it
pub record ClassMeasured (text : List ℕ) (base : ℕ) (xs ys : Table Node) (rs ss : Table Method) (g : Judged Class) : Type 0 where
  pub read : ClassRead text base xs ys rs ss g.read
  pub within : Decides g.within (WithinLimits (Text.class read.class))
