-- How a run ends: the numbers of the endings and what is said of them. Assumes nothing.
use Rattle.std.specs.Prelude.{ℕ, List, [], codes}
use Rattle.store.specs.declared.Refusal.{Refusal}
use Rattle.store.specs.declared.Refusal.TheVariants as refusal
use Rattle.machine.specs.declared.ending.Ending.{Ending}
use Rattle.machine.specs.declared.ending.Ending.TheVariants.{
  Finished,
  NoSuchMethod,
  NoSuchClass,
  CannotInstantiateBot,
  UnboundLocal,
  WrongArgumentCount,
  WrongArgumentKind,
  NoSuchKey,
  DivisionByZero,
  NoTableSpace,
  NoTextSpace,
  NoFrameSpace,
  NoOutputSpace,
  Dropped,
  Stuck,
  NotEnded,
}

abbrev pub number_of : Ending → ℕ
number_of Finished = 0
number_of NoSuchMethod = 1
number_of NoSuchClass = 2
number_of CannotInstantiateBot = 3
number_of UnboundLocal = 4
number_of WrongArgumentCount = 5
number_of WrongArgumentKind = 6
number_of NoSuchKey = 7
number_of DivisionByZero = 8
number_of NoTableSpace = 9
number_of NoTextSpace = 10
number_of NoFrameSpace = 11
number_of NoOutputSpace = 12
number_of Dropped = 13
number_of Stuck = 14
number_of NotEnded = 15

-- only the endings 1 to 12 have a message
abbrev pub message_of : Ending → List ℕ
message_of Finished = []
message_of NoSuchMethod = codes "halt: No such method"
message_of NoSuchClass = codes "halt: No such class"
message_of CannotInstantiateBot = codes "halt: Cannot instantiate Bot"
message_of UnboundLocal = codes "halt: Unbound local"
message_of WrongArgumentCount = codes "halt: Wrong number of arguments"
message_of WrongArgumentKind = codes "halt: Wrong kind of argument"
message_of NoSuchKey = codes "halt: No such key"
message_of DivisionByZero = codes "halt: Division by zero"
message_of NoTableSpace = codes "halt: No space for tables"
message_of NoTextSpace = codes "halt: No space for text"
message_of NoFrameSpace = codes "halt: No space for frames"
message_of NoOutputSpace = codes "halt: No space for output"
message_of Dropped = []
message_of Stuck = []
message_of NotEnded = []

-- how a run ends at a store's refusal
abbrev pub ended_by : Refusal → Ending
ended_by refusal.NoTable = Stuck
ended_by refusal.Full = NoTableSpace
