-- One step of the machine. A step that has no rule is stuck, and that is asked before any want of space. Assumes nothing.
use Rattle.std.specs.Prelude.{ℕ, suc, ◌-◌, Bool, cond, ◌||◌, List, [], ◌∷◌, ◌++◌, length, ℤ, pos, negsuc, ◌+ℤ◌, is_some, Some, None, Ok, Err, Option, nat_lt, slice_index_or}
use Rattle.store.specs.Val.{Val}
use Rattle.store.specs.Tables as store
use Rattle.store.specs.Tables.{Table, look, put, takes}
use Rattle.machine.specs.declared.builtin.Builtin.{Builtin}
use Rattle.machine.specs.declared.ending.Ending.{Ending}
use Rattle.machine.specs.declared.ending.Ending.TheVariants.{
  Finished,
  NoSuchMethod,
  NoSuchClass,
  CannotInstantiateBot,
  UnboundLocal,
  WrongArgumentCount,
  WrongArgumentKind,
  NoSuchKey,
  DivisionByZero,
  NoTableSpace,
  NoFrameSpace,
  Stuck,
}
use Rattle.machine.specs.Limits.{registers_per_frame, most_frames, most_globals, Limits}
use Rattle.machine.specs.Outcome.{Outcome, ◌>>=◌, need, unless}
use Rattle.machine.specs.Effects.{Effects}
use Rattle.machine.specs.Builtin.{builtin_of, apply}
use Rattle.machine.specs.Instr.{Instr, Program, fetch, answer_register}
use Rattle.machine.specs.State.{write, passed, Frame, frame, World, with_tables, with_globals, with_effects, State, at, Next, goes, ends}
use Rattle.machine.specs.Operands.{
  value_at,
  table_at,
  function_at,
  values_from,
  is_zero,
  arith_at,
  same_at,
  ordered_at,
  kind_at,
  key_at,
  has_key_at,
  global_at,
}

-- the answer goes into register a, if the frame has it, and the next instruction follows
abbrev pub into : ℕ → Outcome Val → State → Outcome State
into a x (at f pc R S W) =
    unless Stuck (nat_lt a registers_per_frame) (x >>= (λ v. Ok (at f (suc pc) (write R a v) S W)))

-- a place in the code: there is none before place 0
abbrev pub landing : ℤ → Outcome ℕ
landing (pos p) = Ok p
landing (negsuc n) = Err Stuck

-- n is counted from the instruction behind the jump
abbrev pub jump : ℤ → State → Outcome State
jump n (at f pc R S W) = landing (pos (suc pc) +ℤ n) >>= (λ p. Ok (at f p R S W))

-- a global that was written before, or one more of them
abbrev pub holds_global : ℕ → Table → Bool
holds_global g G = is_some (look (Val.identifier g) G) || nat_lt (length G) most_globals

abbrev pub set_global : ℕ → Val → State → Outcome State
set_global g v (at f pc R S W) =
    unless Stuck (holds_global g W.globals)
    (Ok (at f (suc pc) R S (with_globals (put (Val.identifier g) v W.globals) W)))

-- a new table is empty, and its location is the number of tables before it
abbrev pub make_table : Limits → ℕ → State → Outcome State
make_table L a (at f pc R S W) =
    unless Stuck (nat_lt a registers_per_frame)
    (unless NoTableSpace (nat_lt (length W.tables) L.tables)
    (Ok (at f (suc pc) (write R a (Val.location (length W.tables))) S (with_tables (W.tables ++ [] ∷ []) W))))

-- a present key takes a new value; a new one must find room
abbrev pub set_key : Limits → ℕ → Val → Val → State → Outcome State
set_key L l k v (at f pc R S W) =
    unless NoTableSpace (takes L.pairs W.tables l k)
    (Ok (at f (suc pc) R S (with_tables (store.write W.tables l k v) W)))

-- what a function of the machine itself answers goes to the first register passed; any other takes a frame
abbrev pub invoke : Option Builtin → ℕ → ℕ → List Val → State → Outcome State
invoke (Some b) g a vs (at f pc R S W) =
    apply b vs W.effects >>= (λ r. Ok (at f (suc pc) (write R a r.0) S (with_effects r.1 W)))
invoke None g a vs (at f pc R S W) =
    unless NoFrameSpace (nat_lt (suc (length S)) most_frames) (Ok (at g 0 (passed vs) (frame f pc R ∷ S) W))

-- the caller goes on behind its call, whose first register takes the value; without a caller the run has its value
abbrev pub return : Program → Val → List Frame → World → Outcome State
return P v [] W = Err Finished
return P v (frame f pc R ∷ S) W =
    need (fetch P f pc) >>= (λ i. need (answer_register i)) >>= (λ a. into a (Ok v) (at f pc R S W))

-- the endings that a program can ask for, by number
abbrev pub asked : List Ending
asked =
    Stuck
    ∷ NoSuchMethod
    ∷ NoSuchClass
    ∷ CannotInstantiateBot
    ∷ UnboundLocal
    ∷ WrongArgumentCount
    ∷ WrongArgumentKind
    ∷ NoSuchKey
    ∷ DivisionByZero
    ∷ []

abbrev pub halted : Val → Ending
halted (Val.int (pos n)) = slice_index_or asked n Stuck
halted (Val.int (negsuc n)) = Stuck
halted (Val.string s) = Stuck
halted (Val.identifier g) = Stuck
halted (Val.location l) = Stuck

unfoldable pub exec : Program → Limits → Instr → State → Outcome State
-- a constant into a register
exec P L (Instr.const a v) m = into a (Ok v) m
-- a register into another
exec P L (Instr.mov a b) (at f pc R S W) = into a (value_at R b) (at f pc R S W)
-- the sum, difference, product or quotient of two integers
exec P L (Instr.arith o a b c) (at f pc R S W) = into a (arith_at o R b c) (at f pc R S W)
-- 1 where two values are the same, kind and content
exec P L (Instr.eq a b c) (at f pc R S W) = into a (same_at R b c) (at f pc R S W)
-- 1 where an integer is less than another, or at most the other
exec P L (Instr.ordered o a b c) (at f pc R S W) = into a (ordered_at o R b c) (at f pc R S W)
-- 1 where a value is of this kind
exec P L (Instr.is_kind k a b) (at f pc R S W) = into a (kind_at k R b) (at f pc R S W)
-- a jump past the last instruction is a step
exec P L (Instr.jmp n) m = jump n m
-- a jump on the integer 0; any other value falls through
exec P L (Instr.if_zero a n) (at f pc R S W) =
    value_at R a >>= (λ x. cond (is_zero x) (jump n (at f pc R S W)) (Ok (at f (suc pc) R S W)))
-- a global that was written before
exec P L (Instr.rd_glob a g) (at f pc R S W) = into a (global_at W.globals g) (at f pc R S W)
-- a global, replaced or new
exec P L (Instr.wr_glob g a) (at f pc R S W) = value_at R a >>= (λ v. set_global g v (at f pc R S W))
-- a new table
exec P L (Instr.mk_tab a) m = make_table L a m
-- the value under a key that is there
exec P L (Instr.rd_tab a b c) (at f pc R S W) = into a (key_at W.tables R b c) (at f pc R S W)
-- the value under a key, replaced or new
exec P L (Instr.wr_tab a b c) (at f pc R S W) =
    table_at W.tables R a
    >>= (λ l. value_at R b >>= (λ k. value_at R c >>= (λ v. set_key L l k v (at f pc R S W))))
-- 1 where a key is there
exec P L (Instr.has_tab a b c) (at f pc R S W) = into a (has_key_at W.tables R b c) (at f pc R S W)
-- the registers from the first to the last are passed: none if the last is below the first
exec P L (Instr.call a first last) (at f pc R S W) =
    function_at R a
    >>= (λ g. values_from R first (suc last - first) >>= (λ vs. invoke (builtin_of g) g first vs (at f pc R S W)))
-- back to the caller, or the end of the run
exec P L (Instr.ret a) (at f pc R S W) = value_at R a >>= (λ v. return P v S W)
-- the ending that the program asks for
exec P L (Instr.halt a) (at f pc R S W) = value_at R a >>= (λ v. Err (halted v))

abbrev pub next_of : Effects → Outcome State → Next
next_of o (Ok m) = goes m
next_of o (Err e) = ends e o

unfoldable pub step : Program → Limits → State → Next
step P L (at f pc R S W) = next_of W.effects (need (fetch P f pc) >>= (λ i. exec P L i (at f pc R S W)))
