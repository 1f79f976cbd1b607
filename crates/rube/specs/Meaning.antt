-- What a rule means. The clock falls where a method is entered and where a loop goes round. Assumes nothing.
use Rattle.std.specs.Prelude.{◌≡◌, ℕ, zero, suc, cond, not, List, [], ◌∷◌, ◌++◌, length, pos, Some, None, codes, Option, ◌==◌, slice_index_or}
use Rattle.std.specs.Str.{bytes_eq}
use Rattle.store.specs.Val.{Val}
use Rattle.store.specs.Tables.{Table, look, put}
use Rattle.machine.specs.declared.ending.Ending.{Ending}
use Rattle.machine.specs.declared.ending.Ending.TheVariants.{Finished, NoSuchMethod, NoSuchClass, CannotInstantiateBot, UnboundLocal, WrongArgumentCount, NoTableSpace, NoFrameSpace}
use Rattle.machine.specs.Effects.{nothing_yet, print}
use Rattle.machine.specs.Builtin.{string_in}
use Rattle.grammar.specs.Tree.{Expr, Args}
use Rattle.grammar.specs.Measure.{value_of}
use Rattle.rube.specs.Classes.{Callee, parameter_count, lookup, known}
use Rattle.rube.specs.Heap.{Cell, Heap, Setting, nil, top_self, first_heap, is_nil, truth, class_of, fields_of, fits, new_pairs, put_at}
use Rattle.rube.specs.Evaluation.{State, Res, ◌>>=◌, count, with_locals, with_heap, outcome, effect, unless}
use Rattle.rube.specs.Methods.{perform, argument}

-- a local that was written before
abbrev pub bound : Option Val → State → Res Val
bound None s = Res.end UnboundLocal s
bound (Some v) s = Res.val v s

-- a field that was never written is nil
abbrev pub or_nil : Option Val → Val
or_nil None = nil
or_nil (Some v) = v

abbrev pub location_of : Val → ℕ
location_of (Val.int n) = 0
location_of (Val.string t) = 0
location_of (Val.identifier g) = 0
location_of (Val.location l) = l

-- parameters and arguments; of equal parameters the leftmost is found
abbrev pub bind : List (List ℕ) → List Val → Table
bind [] vs = []
bind (x ∷ xs) [] = []
bind (x ∷ xs) (v ∷ vs) = (Val.string x, v) ∷ bind xs vs

abbrev pub arg_at : List Val → ℕ → Val
arg_at vs i = slice_index_or vs i nil

-- evaluation of an expression: self, how many frames are free, the expression, the state
abbrev pub Eval : Type 0 → Type 0
Eval A = Val → ℕ → Expr A → State → Res Val

-- an Integer and a String take no table, a Map takes two, any other object one
abbrev pub cells_of : List ℕ → Heap → List Cell
cells_of C H =
    cond (bytes_eq C (codes "Map"))
    (Cell.object C ((Val.string (codes "#contents"), Val.location (suc (length H))) ∷ []) ∷ Cell.contents [] ∷ [])
    (Cell.object C [] ∷ [])

-- the main body holds one frame of 32
abbrev pub free_frames : ℕ
free_frames = 31

-- the closing print is counted when it is reached
abbrev pub printed : List ℕ → State → Res (Unit {0})
printed t s = effect (print t (count s).effects) (count s)

abbrev pub first : ℕ → State
first left = record { locals = []; heap = first_heap; effects = nothing_yet left; counted = 0 }

-- the ending, what was printed, and how many rules were counted
pub record Ended : Type 0 where
  pub ending : Ending
  pub output : List ℕ
  pub counted : ℕ

abbrev pub ended : Res (Unit {0}) → Option Ended
ended (Res.val u s) = Some (record { ending = Finished; output = s.effects.output; counted = s.counted })
ended (Res.end e s) = Some (record { ending = e; output = s.effects.output; counted = s.counted })
ended Res.out = None

module _ {A : Type 0} where
  -- a method that was found is entered: its body runs with locals of its own
  abbrev pub enter : Setting A → Eval A → ℕ → Callee A → Val → List Val → State → Res Val
  enter P again d (Callee.built_in n o) r vs s = perform P o r (arg_at vs 0) (arg_at vs 1) (count s)
  enter P again d (Callee.written i m) r vs s =
      again r d m.body (with_locals (bind m.parameters vs) (count s)) >>= (λ v s'. Res.val v (with_locals s.locals s'))

  -- a frame must be free, and the arguments as many as the parameters
  abbrev pub framed : Setting A → Eval A → ℕ → Callee A → Val → List Val → State → Res Val
  framed P again zero f r vs s = Res.end NoFrameSpace s
  framed P again (suc d) f r vs s =
      unless WrongArgumentCount (length vs == parameter_count f) s (enter P again d f r vs s)

  -- the method that the receiver's class finds
  abbrev pub called : Setting A → Eval A → ℕ → Option (Callee A) → Val → List Val → State → Res Val
  called P again d None r vs s = Res.end NoSuchMethod s
  called P again d (Some f) r vs s = framed P again d f r vs s

  abbrev pub call : Setting A → Eval A → ℕ → Val → List ℕ → List Val → State → Res Val
  call P again d r x vs s = called P again d (lookup P.classes (class_of s.heap r) x) r vs s

  abbrev pub make_object : Setting A → List ℕ → State → Res Val
  make_object P C s =
      unless NoTableSpace (fits P s.heap (length (cells_of C s.heap)) (length (cells_of C s.heap))) s
      (Res.val (Val.location (length s.heap)) (with_heap (s.heap ++ cells_of C s.heap) s))

  abbrev pub make : Setting A → List ℕ → State → Res Val
  make P C s =
      cond (bytes_eq C (codes "Integer")) (Res.val (Val.int (pos 0)) s)
      (cond (bytes_eq C (codes "String")) (Res.val (Val.string []) s) (make_object P C s))

  -- the object's initialize, own or inherited, is entered; what it answers is dropped
  abbrev pub initialized : Setting A → Eval A → ℕ → Option (Callee A) → List ℕ → List Val → State → Res Val
  initialized P again d None C vs s = unless WrongArgumentCount (length vs == 0) s (make P C s)
  initialized P again d (Some f) C vs s =
      unless WrongArgumentCount (length vs == parameter_count f) s
      (make P C s >>= (λ r s'. framed P again d f r vs s' >>= (λ _ s''. Res.val r s'')))

  unfoldable mutual
    pub eval : Setting A → Eval A → Eval A
    -- integers and strings are their values
    eval P again self d (Expr.int a w) s = Res.val (Val.int (value_of w)) (count s)
    eval P again self d (Expr.string a w) s = Res.val (Val.string w) (count s)
    eval P again self d (Expr.nil a) s = Res.val nil (count s)
    -- self, and a local that was written before
    eval P again self d (Expr.self a) s = Res.val self (count s)
    eval P again self d (Expr.local a x) s = bound (look (Val.string x) s.locals) (count s)
    -- a field of self
    eval P again self d (Expr.field a x) s = Res.val (or_nil (look (Val.string x) (fields_of s.heap (location_of self)))) (count s)
    -- a conditional: anything but nil chooses the first branch
    eval P again self d (Expr.if_then_else a c t e) s =
        eval P again self d c (count s) >>= (λ v s'. cond (is_nil v) (eval P again self d e s') (eval P again self d t s'))
    -- a loop goes round as long as its guard is not nil, and answers nil
    eval P again self d (Expr.while_do a c b) s =
        eval P again self d c (count s)
        >>= (λ v s'. cond (is_nil v) (Res.val nil s') (eval P again self d b s' >>= (λ _ s''. again self d (Expr.while_do a c b) s'')))
    -- a sequence answers what its second part does
    eval P again self d (Expr.seq a b c) s = eval P again self d b (count s) >>= (λ _ s'. eval P again self d c s')
    -- a write answers what was written
    eval P again self d (Expr.set_local a x e) s =
        eval P again self d e (count s) >>= (λ v s'. Res.val v (with_locals (put (Val.string x) v s'.locals) s'))
    eval P again self d (Expr.set_field a x e) s =
        eval P again self d e (count s)
        >>= (λ v s'. unless NoTableSpace (fits P s'.heap 0 (new_pairs (Val.string x) (fields_of s'.heap (location_of self)))) s'
        (Res.val v (with_heap (put_at s'.heap (location_of self) (Val.string x) v) s')))
    -- the class is that very one
    eval P again self d (Expr.instance_of a e C) s =
        eval P again self d e (count s) >>= (λ v s'. Res.val (truth (bytes_eq (class_of s'.heap v) C)) s')
    -- an object of a known class that is not Bot
    eval P again self d (Expr.new a C xs) s =
        unless NoSuchClass (known P.classes C) (count s)
        (unless CannotInstantiateBot (not (bytes_eq C (codes "Bot"))) (count s)
        (evals P again self d xs (count s)
        >>= (λ vs s'. initialized P again d (lookup P.classes C (codes "initialize")) C vs s')))
    -- an invocation: receiver and arguments in order, then the method
    eval P again self d (Expr.invoke a e x xs) s =
        eval P again self d e (count s) >>= (λ r s'. evals P again self d xs s' >>= (λ vs s''. call P again d r x vs s''))

    -- arguments from the first to the last
    pub evals : Setting A → Eval A → Val → ℕ → Args A → State → Res (List Val)
    evals P again self d Args.none s = Res.val [] s
    evals P again self d (Args.more xs e) s =
        evals P again self d xs s >>= (λ vs s'. eval P again self d e s' >>= (λ v s''. Res.val (vs ++ v ∷ []) s''))

  -- without a clock there is no answer
  abbrev pub no_clock : Eval A
  no_clock self d e s = Res.out

  unfoldable pub eval_at : Setting A → ℕ → Eval A
  eval_at P zero = eval P no_clock
  eval_at P (suc k) = eval P (eval_at P k)

  -- at the end the value's to_s is invoked and its result, a string, printed
  abbrev pub close : Setting A → Eval A → Val → State → Res (Unit {0})
  close P again v s =
      call P again free_frames v (codes "to_s") [] s >>= (λ t s'. outcome (argument (string_in t)) s' >>= printed)

  -- the rule's expression, with so much output left
  unfoldable pub meaning : Setting A → ℕ → Expr A → ℕ → Res (Unit {0})
  meaning P left e k =
      unless NoTableSpace (fits P first_heap 0 0) (first left)
      (eval_at P k top_self free_frames e (first left) >>= (λ v s. close P (eval_at P k) v s))

  -- a rule ends so when it does at some clock
  abbrev pub Ends : Setting A → ℕ → Expr A → Ended → Type 0
  Ends P left e r = (k : ℕ) × (ended (meaning P left e k) ≡ Some r)
