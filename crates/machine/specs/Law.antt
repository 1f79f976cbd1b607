-- What holds of every step of every program. Assumes nothing.
use Rattle.std.specs.Prelude.{◌≡◌, ℕ, suc, ◌+◌, ◌≤◌, true, List, ◌∷◌, ◌++◌, length, is_some}
use Rattle.store.specs.Val.{Val}
use Rattle.store.specs.Tables.{Tables, read}
use Rattle.machine.specs.declared.ending.Ending.{Ending}
use Rattle.machine.specs.Limits.{Limits}
use Rattle.machine.specs.Effects.{Effects}
use Rattle.machine.specs.Instr.{Program, fetch}
use Rattle.machine.specs.State.{Registers, write, Frame, frame, World, State, at, world_of, Next, goes, ends}
use Rattle.machine.specs.Step.{step}
use Rattle.machine.specs.Run.{run}

-- what p has made and printed is what o had, and more; what is printed was left to print
pub record Grows (o p : Effects) : Type 0 where
  pub more-strings : o.strings ≤ p.strings
  pub more_bytes : o.bytes ≤ p.bytes
  pub more-output : (s : List ℕ) × (p.output ≡ o.output ++ s)
  pub within-output : length p.output + p.left ≡ length o.output + o.left

-- no table is removed, and a key once present stays
pub record Keeps (T U : Tables) : Type 0 where
  pub tables-stay : length T ≤ length U
  pub keys-stay : (l : ℕ) (k : Val) → is_some (read T l k) ≡ true → is_some (read U l k) ≡ true

-- what becomes of the frames: no register of a caller changes, but the one that takes the answer of its call
pub data Moves : State → State → Type 0 where
  within : {f pc pc' : ℕ} {R R' : Registers} {S : List Frame} {W W' : World} → Moves (at f pc R S W) (at f pc' R' S W')
  enters : {f g pc : ℕ} {R R' : Registers} {S : List Frame} {W : World} → Moves (at f pc R S W) (at g 0 R' (frame f pc R ∷ S) W)
  leaves : {f g pc pc' : ℕ} {R R' : Registers} {S : List Frame} {W : World} (a : ℕ) (v : Val) → Moves (at g pc' R' (frame f pc R ∷ S) W) (at f (suc pc) (write R a v) S W)

pub record Onward (m n : State) : Type 0 where
  pub frames : Moves m n
  pub tables : Keeps (world_of m).tables (world_of n).tables
  pub effects : Grows (world_of m).effects (world_of n).effects

-- programs with the same instructions take the same steps
abbrev pub Determined : Type 0
Determined =
    (P Q : Program) (L : Limits) (m : State) → ((f pc : ℕ) → fetch P f pc ≡ fetch Q f pc) → step P L m ≡ step Q L m

-- each step leads onward
abbrev pub LeadsOnward : Type 0
LeadsOnward = (P : Program) (L : Limits) (m n : State) → step P L m ≡ goes n → Onward m n

-- a step that ends the run makes and prints nothing
abbrev pub EndsWithout : Type 0
EndsWithout = (P : Program) (L : Limits) (m : State) (e : Ending) (o : Effects) → step P L m ≡ ends e o → o ≡ (world_of m).effects

-- what a run has made and printed by now
abbrev pub effects_of : Next → Effects
effects_of (goes m) = (world_of m).effects
effects_of (ends e o) = o

-- a run that goes on adds to what it has made and printed, in however many steps it is run
abbrev pub RunsGrow : Type 0
RunsGrow = (P : Program) (L : Limits) (n : ℕ) (m : State) → Grows (world_of m).effects (effects_of (run P L n m))

pub record Law : Type 0 where
  pub determined : Determined
  pub leads-onward : LeadsOnward
  pub ends-without : EndsWithout
  pub runs_grow : RunsGrow
