-- The judgements of runs, each a record, so that antt reads their arguments off a proof.
use Rattle.std.proofs.Common.{◌≡◌, ℕ, suc, List, [], ◌∷◌, Some}
use Rattle.store.specs.Val.{Val}
use Rattle.machine.specs.Limits.{Limits}
use Rattle.machine.specs.Instr.{Instr, Program, fetch}
use Rattle.machine.specs.State.{Registers, read, State, Next}
use Rattle.machine.specs.Step.{step}
use Rattle.machine.specs.Run.{run}

-- the register a holds v
pub record Has (R : Registers) (a : ℕ) (v : Val) : Type 0 where
  pub is : read R a ≡ Some v

-- the registers from a on hold these values
pub data Hold (R : Registers) : ℕ → List Val → Type 0 where
  none : {a : ℕ} → Hold R a []
  more : {a : ℕ} {v : Val} {vs : List Val} → Has R a v → Hold R (suc a) vs → Hold R a (v ∷ vs)

-- the instruction i stands at the place pc of the function f
pub record Fetch (P : Program) (f pc : ℕ) (i : Instr) : Type 0 where
  pub is : fetch P f pc ≡ Some i

pub record Step (P : Program) (L : Limits) (m : State) (x : Next) : Type 0 where
  pub is : step P L m ≡ x

-- n steps
pub record Run (P : Program) (L : Limits) (n : ℕ) (m : State) (x : Next) : Type 0 where
  pub is : run P L n m ≡ x
