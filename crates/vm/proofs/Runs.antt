-- A run, step by step.
use Rattle.std.proofs.Common.{◌≡◌, ℕ, suc, ◌+◌, ◌-◌, ◌<◌, Some, None, Ok, Err, Option, Result, sym, ap, ◌∙◌, subst, arith}
use Rattle.std.specs.Result.{result_err}
use Rattle.machine.specs.declared.ending.Ending.{Ending}
use Rattle.machine.specs.Limits.{Limits}
use Rattle.machine.specs.Instr.{Program}
use Rattle.machine.specs.State.{State, world_of, Next, goes, ends}
use Rattle.machine.specs.Step.{step}
use Rattle.machine.specs.Run.{then, further, run, steps_made}
use Rattle.vm.specs.Standing.{Steps}
use Rattle.vm.specs.Running.{Stepped, RanBy}

-- i of n steps were made and led to a state: what is left gives the end
abbrev pub Left : Program → Limits → ℕ → ℕ → State → (State → Type 0) → Type 0
Left P L n i m stands = (k : State) × (run P L n m ≡ run P L (n - i) k) × (steps_made P L n m ≡ i + steps_made P L (n - i) k) × stands k

module _ (P : Program) (L : Limits) (n i : ℕ) (m : State) (low : i < n) (now after : State → Type 0) where
  pub one_more : (h : Left P L n i m now) → Steps (step P L h.0) h.0 (Ok tt) after → Left P L n (i + 1) m after
  unfolding run steps_made
  one_more (k, r, c, s) (j, e, t) =
      let d : n - i ≡ suc (n - (i + 1)) = omega arith in
      let left : run P L (n - i) k ≡ run P L (n - (i + 1)) j = ap (λ z. run P L z k) d ∙ ap (λ (x : Next). then x (run P L (n - (i + 1)))) e in
      let made : steps_made P L (n - i) k ≡ suc (steps_made P L (n - (i + 1)) j) = ap (λ z. steps_made P L z k) d ∙ ap (λ (x : Next). suc (further x (steps_made P L (n - (i + 1))))) e in
      (j, r ∙ left, omega arith, t)

  pub last_step : (h : Left P L n i m now) (e : Ending) → Steps (step P L h.0) h.0 (Err e) after → RanBy P L n m (record { steps = i + 1; ending = Some e }) after
  unfolding run steps_made
  last_step (k, r, c, s) e (f, t) =
      let d : n - i ≡ suc (n - (i + 1)) = omega arith in
      let left : run P L (n - i) k ≡ ends e (world_of k).effects = ap (λ z. run P L z k) d ∙ ap (λ (x : Next). then x (run P L (n - (i + 1)))) f in
      let made : steps_made P L (n - i) k ≡ suc 0 = ap (λ z. steps_made P L z k) d ∙ ap (λ (x : Next). suc (further x (steps_made P L (n - (i + 1))))) f in
      (omega arith, (k, r ∙ left, t))

pub none_made : (P : Program) (L : Limits) (n : ℕ) (m : State) (stands : State → Type 0) → stands m → Left P L n 0 m stands
none_made P L n m stands s =
    let d : n ≡ n - 0 = omega arith in
    let made : steps_made P L n m ≡ steps_made P L (n - 0) m = ap (λ z. steps_made P L z m) d in
    (m, ap (λ z. run P L z m) d, omega arith, s)

pub all_made : (P : Program) (L : Limits) (n i : ℕ) (m : State) (stands : State → Type 0) → i ≡ n → Left P L n i m stands → RanBy P L n m (record { steps = n; ending = None }) stands
unfolding run steps_made
all_made P L n i m stands e (k, r, c, s) =
    let d : n - i ≡ 0 = omega arith in
    let left : run P L (n - i) k ≡ goes k = ap (λ z. run P L z k) d in
    let made : steps_made P L (n - i) k ≡ 0 = ap (λ z. steps_made P L z k) d in
    (omega arith, (k, r ∙ left, s))

-- a step by how it ended the run, if it did
pub step-ended : (r : Result (Unit {0}) Ending) (o : Option Ending) (x : Next) (m : State) (stands : State → Type 0) → o ≡ result_err r → Steps x m r stands → Stepped x m (Ok o) stands
step-ended (Ok u) o x m stands e h = subst (λ (z : Option Ending). Stepped x m (Ok z) stands) (sym e) h
step-ended (Err d) o x m stands e h = subst (λ (z : Option Ending). Stepped x m (Ok z) stands) (sym e) h
