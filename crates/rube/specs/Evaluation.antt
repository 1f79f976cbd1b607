-- What evaluation carries along, and what it comes to. Assumes nothing.
use Rattle.std.specs.Prelude.{ℕ, suc, Bool, true, false, Ok, Err, Result}
use Rattle.store.specs.Tables.{Table}
use Rattle.machine.specs.declared.ending.Ending.{Ending}
use Rattle.machine.specs.Effects.{Effects}
use Rattle.rube.specs.Heap.{Heap}

-- the locals of the running body, all objects, what was made and printed, and how many rules were counted
pub record State : Type 0 where
  pub locals : Table
  pub heap : Heap
  pub effects : Effects
  pub counted : ℕ

-- a result, an ending of the run, or no answer at this clock
pub data Res (A : Type 0) : Type 0 where
  val : A → State → Res A
  end : Ending → State → Res A
  out : Res A

infixl 20 ◌>>=◌
abbrev pub ◌>>=◌ : {A B : Type 0} → Res A → (A → State → Res B) → Res B
Res.val v s >>= f = f v s
Res.end e s >>= f = Res.end e s
Res.out >>= f = Res.out

-- one rule more is counted
abbrev pub count : State → State
count s = record { locals = s.locals; heap = s.heap; effects = s.effects; counted = suc s.counted }

abbrev pub with_locals : Table → State → State
with_locals t s = record { locals = t; heap = s.heap; effects = s.effects; counted = s.counted }

abbrev pub with_heap : Heap → State → State
with_heap H s = record { locals = s.locals; heap = H; effects = s.effects; counted = s.counted }

abbrev pub with_effects : Effects → State → State
with_effects o s = record { locals = s.locals; heap = s.heap; effects = o; counted = s.counted }

-- an outcome that changes nothing
abbrev pub outcome : {A : Type 0} → Result A Ending → State → Res A
outcome (Ok x) s = Res.val x s
outcome (Err e) s = Res.end e s

-- an outcome that changes what was made and printed
abbrev pub effect : Result Effects Ending → State → Res (Unit {0})
effect (Ok o) s = Res.val tt (with_effects o s)
effect (Err e) s = Res.end e s

-- go on where the test passes, else end
abbrev pub unless : {A : Type 0} → Ending → Bool → State → Res A → Res A
unless e false s r = Res.end e s
unless e true s r = r
