-- A result, or the ending of the run. Assumes nothing.
use Rattle.std.specs.Prelude.{Bool, true, false, Some, None, Ok, Err, Option, Result}
use Rattle.machine.specs.declared.ending.Ending.{Ending}
use Rattle.machine.specs.declared.ending.Ending.TheVariants.{Stuck}

abbrev pub Outcome : Type 0 → Type 0
Outcome A = Result A Ending

infixl 20 ◌>>=◌
-- an ending ends what would follow
abbrev pub ◌>>=◌ : {A B : Type 0} → Result A Ending → (A → Result B Ending) → Result B Ending
Ok x >>= f = f x
Err e >>= f = Err e

-- where there is nothing the run is stuck
abbrev pub need : {A : Type 0} → Option A → Result A Ending
need None = Err Stuck
need (Some x) = Ok x

-- go on where the test passes, else end with e
abbrev pub unless : {A : Type 0} → Ending → Bool → Result A Ending → Result A Ending
unless e false x = Err e
unless e true x = x
