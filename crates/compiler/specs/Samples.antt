-- The sample rules on the machine: within the bound on steps they end as their table says. Assumes nothing.
use Rattle.std.specs.Prelude.{◌≡◌, ℕ, List, [], ◌∷◌, Some, None, codes, Option}
use Rattle.std.specs.List.{AllByRecursion}
use Rattle.lexer.specs.Tokens.{tokens}
use Rattle.machine.specs.declared.ending.Ending.{Ending}
use Rattle.machine.specs.declared.ending.Ending.TheVariants.{
  Finished,
  NoSuchClass,
  CannotInstantiateBot,
  UnboundLocal,
  WrongArgumentCount,
  WrongArgumentKind,
  NoSuchKey,
  DivisionByZero,
  NoFrameSpace,
}
use Rattle.machine.specs.State.{Next, goes, ends, initial}
use Rattle.machine.specs.Run.{run}
use Rattle.grammar.specs.Tree.{Bare}
use Rattle.grammar.specs.Grammar.{Kind}
use Rattle.rube.specs.Classes.{Classes}
use Rattle.rube.specs.Meaning.{Ended, ended, meaning}
use Rattle.rube.specs.Bounds.{step_bound}
use Rattle.rube.specs.Samples.{Sample, Row, row, tree_of, with_rule, with_classes, setting, answer_at, ending_of, rows}
use Rattle.compiler.specs.Whole.{program}

abbrev pub shown : Next → Option (Ending × List ℕ)
shown (goes m) = None
shown (ends e o) = Some (e, o.output)

-- the run of the compiled rule, with as many steps as its counted rules allow
abbrev pub ran_by : Classes (Unit {0}) → Bare → Option Ended → Option (Ending × List ℕ)
ran_by P e None = None
ran_by P e (Some r) = shown (run (program P e) (setting P).limits (step_bound P r.counted) (initial 16384))

abbrev pub ran : Sample → Option (Ending × List ℕ)
ran x =
    with_classes x.classes []
    (λ P. with_rule (tree_of Kind.rule (tokens x.rule)) (λ e. ran_by P e (ended (meaning (setting P) 16384 e 40))))

abbrev pub RunsHold : Type 0
RunsHold = AllByRecursion (λ x. ran x.sample ≡ Some (x.ending, x.output)) rows

-- more rules: every form, every ending that a small store reaches
abbrev pub more_rows : List Row
more_rows =
    row (record { classes = []; rule = codes "i = 3; while if i.equal?(0) then nil else 1 end do i = i.-(1) end; i" }) Finished (codes "0")
    ∷ row (record { classes = []; rule = codes "i = 2; while if i.equal?(0) then nil else 1 end do i.print(); i = i.-(1) end" }) Finished (codes "21nil")
    ∷ row (record { classes = codes "class R < Object begin def f(n) self.f(n.+(1)) end end" ∷ []; rule = codes "new R().f(0)" }) NoFrameSpace (codes "")
    ∷ row (record { classes = []; rule = codes "1./(0)" }) DivisionByZero (codes "")
    ∷ row (record { classes = []; rule = codes "-2147483648./(-1)" }) Finished (codes "-2147483648")
    ∷ row (record { classes = []; rule = codes "new Foo(1./(0))" }) NoSuchClass (codes "")
    ∷ row (record { classes = []; rule = codes "new Bot(1./(0))" }) CannotInstantiateBot (codes "")
    ∷ row (record { classes = []; rule = codes "new Integer(1./(0))" }) DivisionByZero (codes "")
    ∷ row (record { classes = []; rule = codes "new Integer(1)" }) WrongArgumentCount (codes "")
    ∷ row (record { classes = []; rule = codes "1.foo(1./(0))" }) DivisionByZero (codes "")
    ∷ row (record { classes = []; rule = codes "new Map().find(1)" }) NoSuchKey (codes "")
    ∷ row (record { classes = []; rule = codes "1.+(\"a\")" }) WrongArgumentKind (codes "")
    ∷ row (record { classes = []; rule = codes "1.+()" }) WrongArgumentCount (codes "")
    ∷ row (record { classes = []; rule = codes "new Object()" }) Finished (codes "Object")
    ∷ row (record { classes = []; rule = codes "\"a\".print(); 1.print(); nil.print(); new Map().print(); \"b\"" }) Finished (codes "a1nilMapb")
    ∷ row (record { classes = []; rule = codes "@x = 5; @x" }) Finished (codes "5")
    ∷ row (record { classes = []; rule = codes "if nil then x = 1 else 2 end; x" }) UnboundLocal (codes "")
    ∷ row (record { classes = []; rule = codes "new Map() instanceof Map" }) Finished (codes "1")
    ∷ row (record { classes = []; rule = codes "1 instanceof Foo" }) Finished (codes "nil")
    ∷ row (record { classes = []; rule = codes "\"\" instanceof String" }) Finished (codes "1")
    ∷ row (record { classes = []; rule = codes "\"ab\".+(\"c\").length()" }) Finished (codes "3")
    ∷ row (record { classes = []; rule = codes "new String().+(\"x\")" }) Finished (codes "x")
    ∷ row (record { classes = []; rule = codes "new Integer()" }) Finished (codes "0")
    ∷ row (record { classes = []; rule = codes "m = new Map(); k = new Object(); m.insert(k, 1); m.insert(k, 2); m.insert(\"1\", 3); m.insert(1, 4); m.find(k).+(m.find(\"1\")).*(m.find(1))" }) Finished (codes "20")
    ∷ row (record { classes = []; rule = codes "m = new Map(); m.has(1).print(); m.insert(1, nil); m.has(1)" }) Finished (codes "nil1")
    ∷ row (record { classes = codes "class T < Object begin def to_s() 5 end end" ∷ []; rule = codes "new T()" }) WrongArgumentKind (codes "")
    ∷ row (record { classes = codes "class T < Object begin def to_s(x) \"a\" end end" ∷ []; rule = codes "new T()" }) WrongArgumentCount (codes "")
    ∷ row (record { classes = codes "class T < Object begin def to_s() \"hi\" end end" ∷ []; rule = codes "new T()" }) Finished (codes "hi")
    ∷ row (record { classes = codes "class D < Object begin def f(x, x) x = x.+(10); x end end" ∷ []; rule = codes "new D().f(1, 2)" }) Finished (codes "11")
    ∷ row (record { classes = codes "class A < Object begin def initialize(x) @v = x; 7 end def get() @v end end" ∷ codes "class B < A begin def get() @v.+(1) end end" ∷ []; rule = codes "b = new B(6); b.get().print(); b.initialize(1); b.get()" }) Finished (codes "72")
    ∷ row (record { classes = codes "class C < Object begin end" ∷ []; rule = codes "new C()" }) Finished (codes "C")
    ∷ row (record { classes = []; rule = codes "x = y = 4; x.+(y)" }) Finished (codes "8")
    ∷ row (record { classes = []; rule = codes "- = 4; -" }) Finished (codes "4")
    ∷ row (record { classes = []; rule = codes "nil.equal?(nil)" }) Finished (codes "1")
    ∷ row (record { classes = []; rule = codes "\"1\".equal?(1)" }) Finished (codes "nil")
    ∷ row (record { classes = []; rule = codes "self.to_s().equal?(\"Object\")" }) Finished (codes "1")
    ∷ []

abbrev pub MeaningsHold : Type 0
MeaningsHold = AllByRecursion (λ x. ending_of (answer_at 40 x.sample) ≡ Some (x.ending, x.output)) more_rows

abbrev pub MoreRunsHold : Type 0
MoreRunsHold = AllByRecursion (λ x. ran x.sample ≡ Some (x.ending, x.output)) more_rows
