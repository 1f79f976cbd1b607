-- Sample rules, from the bytes of their texts to how they end. Assumes nothing.
use Rattle.std.specs.Prelude.{◌≡◌, ℕ, List, [], ◌∷◌, map, Some, None, codes, Option}
use Rattle.std.specs.List.{AllByRecursion}
use Rattle.lexer.specs.Tokens.{Tokens, tokens}
use Rattle.machine.specs.declared.ending.Ending.{Ending}
use Rattle.machine.specs.declared.ending.Ending.TheVariants.{Finished, NoSuchMethod, UnboundLocal, WrongArgumentCount, WrongArgumentKind}
use Rattle.grammar.specs.Tree.{Text, Bare, BareClass, BareText}
use Rattle.grammar.specs.Grammar.{Kind}
use Rattle.grammar.specs.Machine.{Outcome, parse}
use Rattle.rube.specs.Classes.{Classes, class_count, pair_count}
use Rattle.rube.specs.Heap.{Setting}
use Rattle.rube.specs.Meaning.{Ended, ended, meaning}
use Rattle.rube.specs.Bounds.{start_steps, step_bound, code_bound}

-- a text's tree, if it has one
abbrev pub tree_of : Kind → Tokens → Option BareText
tree_of κ (Tokens.all ps) = accepted (parse κ (map (λ p. p.token) ps)) where
  accepted : Outcome → Option BareText
  accepted (Outcome.accepted t) = Some t
  accepted (Outcome.refused rest) = None
tree_of κ (Tokens.stray p) = None

abbrev pub with_rule : {X : Type 0} → Option BareText → (Bare → Option X) → Option X
with_rule None f = None
with_rule (Some (Text.rule e)) f = f e
with_rule (Some (Text.class c)) f = None

abbrev pub with_class : {X : Type 0} → Option BareText → (BareClass → Option X) → Option X
with_class None f = None
with_class (Some (Text.rule e)) f = None
with_class (Some (Text.class c)) f = f c

-- the classes of the texts, in the order of acceptance, before those that are there
abbrev pub with_classes : {X : Type 0} → List (List ℕ) → Classes (Unit {0}) → (Classes (Unit {0}) → Option X) → Option X
with_classes [] P f = f P
with_classes (t ∷ ts) P f = with_class (tree_of Kind.class (tokens t)) (λ c. with_classes ts (c ∷ P) f)

pub record Sample : Type 0 where
  pub classes : List (List ℕ)
  pub rule : List ℕ

-- a store of the largest size, and all output left
abbrev pub setting : Classes (Unit {0}) → Setting (Unit {0})
setting P = record { classes = P; limits = record { tables = 4096; pairs = 16384 } }

-- how a sample ends, at a clock
abbrev pub answer_at : ℕ → Sample → Option Ended
answer_at k x =
    with_classes x.classes [] (λ P. with_rule (tree_of Kind.rule (tokens x.rule)) (λ e. ended (meaning (setting P) 16384 e k)))

-- this clock suffices for all of them
abbrev pub answer : Sample → Option Ended
answer = answer_at 8

abbrev A : List ℕ
A = codes "class A < Object begin def initialize(x) @v = x end def get() @v end end"

abbrev B : List ℕ
B = codes "class B < A begin end"

abbrev alone : List ℕ → Sample
alone r = record { classes = []; rule = r }

abbrev with_ab : List ℕ → Sample
with_ab r = record { classes = A ∷ B ∷ []; rule = r }

-- a sample, its ending and what it prints
pub record Row : Type 0 where
  pub sample : Sample
  pub ending : Ending
  pub output : List ℕ

abbrev pub row : Sample → Ending → List ℕ → Row
row x e o = record { sample = x; ending = e; output = o }

abbrev pub rows : List Row
rows =
    row (alone (codes "3.+(4)")) Finished (codes "7")
    ∷ row (alone (codes "-7./(2)")) Finished (codes "-3")
    ∷ row (alone (codes "2147483647.+(1)")) Finished (codes "-2147483648")
    ∷ row (alone (codes "x")) UnboundLocal []
    ∷ row (alone (codes "@x")) Finished (codes "nil")
    ∷ row (alone (codes "1.foo()")) NoSuchMethod []
    ∷ row (alone (codes "\"a\".+(1)")) WrongArgumentKind []
    ∷ row (alone (codes "if 0 then 1 else 2 end")) Finished (codes "1")
    ∷ row (with_ab (codes "new B(6).get()")) Finished (codes "6")
    ∷ row (with_ab (codes "new B()")) WrongArgumentCount []
    ∷ row (with_ab (codes "new B(6) instanceof A")) Finished (codes "nil")
    ∷ row (alone (codes "m = new Map(); m.insert(\"#class\", 1); m.find(\"#class\")")) Finished (codes "1")
    ∷ []

abbrev pub ending_of : Option Ended → Option (Ending × List ℕ)
ending_of None = None
ending_of (Some r) = Some (r.ending, r.output)

-- every sample ends as its row says
abbrev pub RowsHold : Type 0
RowsHold = AllByRecursion (λ x. ending_of (answer x.sample) ≡ Some (x.ending, x.output)) rows

-- what is counted of a sample: rules, classes, pairs, steps before the rule, the bound on steps, the code's bound
pub record Figures : Type 0 where
  pub counted : ℕ
  pub classes : ℕ
  pub pairs : ℕ
  pub start : ℕ
  pub steps : ℕ
  pub code : ℕ

abbrev pub figured_by : Classes (Unit {0}) → Bare → Option Ended → Option Figures
figured_by P e None = None
figured_by P e (Some r) =
    Some
    (record {
      counted = r.counted;
      classes = class_count P;
      pairs = pair_count P;
      start = start_steps P;
      steps = step_bound P r.counted;
      code = code_bound P e;
    })

abbrev pub figures : Sample → Option Figures
figures x =
    with_classes x.classes []
    (λ P. with_rule (tree_of Kind.rule (tokens x.rule)) (λ e. figured_by P e (ended (meaning (setting P) 16384 e 8))))

-- `3.+(4)` begins three expressions, enters two methods and prints; the five classes find 24 methods
abbrev pub SumFigures : Type 0
SumFigures =
    figures (alone (codes "3.+(4)"))
    ≡ Some (record { counted = 6; classes = 5; pairs = 24; start = 3840; steps = 4608; code = 1376 })

-- `new B(6).get()` begins six expressions, enters three methods and prints; seven classes find 34 methods
abbrev pub ObjectFigures : Type 0
ObjectFigures =
    figures (with_ab (codes "new B(6).get()"))
    ≡ Some (record { counted = 10; classes = 7; pairs = 34; start = 5376; steps = 6656; code = 1656 })

pub record SamplesHold : Type 0 where
  pub endings : RowsHold
  pub sum : SumFigures
  pub object : ObjectFigures
