-- The law of compiled rules: on the machine a rule does what its meaning says, is never stuck, and is in time. Assumes nothing.
use Rattle.std.specs.Prelude.{◌≡◌, ℕ, suc, ◌<◌, ◌≤◌, List, [], map, length}
use Rattle.std.specs.List.{AllByRecursion}
use Rattle.machine.specs.declared.ending.Ending.{Ending}
use Rattle.machine.specs.declared.builtin.Builtin.TheVariants.{PrintValue}
use Rattle.machine.specs.Builtin.{builtin_number}
use Rattle.machine.specs.Ending.{number_of}
use Rattle.machine.specs.Limits.{Limits, most_globals}
use Rattle.machine.specs.Effects.{Effects}
use Rattle.machine.specs.State.{ends, initial}
use Rattle.machine.specs.Run.{run}
use Rattle.lexer.specs.Tokens.{Placed, Tokens, tokens}
use Rattle.grammar.specs.Tree.{Expr, BareText}
use Rattle.grammar.specs.Grammar.{Kind}
use Rattle.grammar.specs.Machine.{Outcome, parse}
use Rattle.grammar.specs.Measure.{BodyWithin}
use Rattle.rube.specs.Classes.{Classes, class_count, all_methods}
use Rattle.rube.specs.Meaning.{Ended, Ends}
use Rattle.rube.specs.Bounds.{step_bound, code_bound}
use Rattle.compiler.specs.Layout.{slots, free}
use Rattle.compiler.specs.Whole.{program}
use Rattle.correctness.specs.Fitting.{Fit}
use Rattle.correctness.specs.Accepted.{Accepted, Few}
use Rattle.correctness.specs.CodeSize.{ClassesWithin, instructions, GlobalsBelow}
use Rattle.correctness.specs.Spelled.{Spelled, SpelledClass, SpelledText}

module _ {A : Type 0} where
  -- classes and a rule as reading and accepting them leaves them
  pub record Compilable (P : Classes A) (e : Expr A) : Type 0 where
    -- each class was accepted after those before it, and they are not too many
    pub accepted : Accepted P
    pub few : Few P
    -- methods and rule keep the limits on names, arguments, depth and literals
    pub classes-within : ClassesWithin P
    pub rule-within : BodyWithin [] e
    -- names are spelled as the language's tokens
    pub classes-spelled : AllByRecursion SpelledClass P
    pub rule-spelled : Spelled e

  -- the compiled rule against its meaning, with a store of this size and so much output left
  pub record Correct (P : Classes A) (e : Expr A) (L : Limits) (left : ℕ) : Type 0 where
    -- what the machine ends with, the meaning ends with, and the output is the same
    pub same : (j : ℕ) (x : Ending) (o : Effects) → run (program P e) L j (initial left) ≡ ends x o
        → (n : ℕ) × Ends (record { classes = P; limits = L }) left e (record { ending = x; output = o.output; counted = n })
    -- the endings are those of the language, 0 to 12: the machine is never stuck
    pub never_stuck : (j : ℕ) (x : Ending) (o : Effects) → run (program P e) L j (initial left) ≡ ends x o → number_of x ≤ 12
    -- what the meaning ends with, the machine ends with, in as many steps as the counted rules allow, and the output is the same
    pub in-time : (r : Ended) → Ends (record { classes = P; limits = L }) left e r
        → (o : Effects) × (run (program P e) L (step_bound P r.counted) (initial left) ≡ ends r.ending o) × (o.output ≡ r.output)

-- for every rule over accepted classes, every store and every output, whatever is noted at the nodes of the trees
abbrev pub Law : Type 0 → Type 0
Law A = (P : Classes A) (e : Expr A) (L : Limits) (left : ℕ) → Compilable P e → Correct P e L left

-- what the code of a rule takes of the machine
pub record Sized {A : Type 0} (P : Classes A) (e : Expr A) : Type 0 where
  pub instructions-few : instructions (program P e) ≤ code_bound P e
  -- one global for nil and one for each class
  pub globals-below : GlobalsBelow (suc (class_count P)) (program P e)
  pub globals-few : suc (class_count P) ≤ most_globals
  -- functions are numbered below the machine's own
  pub functions-few : length (program P e) < builtin_number PrintValue
  -- the rule's registers and those of every method are within a frame
  pub rule_fits : Fit (slots [] e) e (free (slots [] e))
  pub methods-fit : AllByRecursion (λ m. Fit (slots m.parameters m.body) m.body (free (slots m.parameters m.body))) (all_methods P)

abbrev pub CodeLaw : Type 0 → Type 0
CodeLaw A = (P : Classes A) (e : Expr A) → Compilable P e → Sized P e

-- a text that was taken apart into tokens and read as a tree is spelled
abbrev pub TextLaw : Type 0
TextLaw =
    (κ : Kind) (text : List ℕ) (ps : List Placed) (t : BareText) → tokens text ≡ Tokens.all ps
    → parse κ (map (λ p. p.token) ps) ≡ Outcome.accepted t → SpelledText t
