-- Runs put together: so many steps and then so many more.
use Rattle.std.proofs.Common.{◌≡◌, ℕ, zero, suc, ◌+◌, ◌-◌, ◌≤◌, sym, refl, ◌∙◌, suc-add, zero-add, arith}
use Rattle.machine.specs.declared.ending.Ending.{Ending}
use Rattle.machine.specs.Limits.{Limits}
use Rattle.machine.specs.Effects.{Effects}
use Rattle.machine.specs.Instr.{Program}
use Rattle.machine.specs.State.{State, Next, goes, ends}
use Rattle.machine.specs.Step.{step}
use Rattle.machine.specs.Run.{then, run, further, steps_made}
use Rattle.machine.proofs.Judge.{Step, Run}

then-then : (x : Next) (f g : State → Next) → then (then x f) g ≡ then x (λ m. then (f m) g)
then-then (goes m) f g = refl
then-then (ends e o) f g = refl

then-cong : (x : Next) (f g : State → Next) → ((m : State) → f m ≡ g m) → then x f ≡ then x g
then-cong (goes m) f g h = h m
then-cong (ends e o) f g h = refl

then-goes : (x : Next) → then x goes ≡ x
then-goes (goes m) = refl
then-goes (ends e o) = refl

-- i + j steps are i steps and then j
pub run-then : (P : Program) (L : Limits) (i j : ℕ) (m : State) → run P L (i + j) m ≡ then (run P L i m) (run P L j)
unfolding run
run-then P L zero j m = rw zero-add
run-then P L (suc i) j m =
    rw suc-add
    (then-cong (step P L m) _ _ (λ n. run-then P L i j n) ∙ sym (then-then (step P L m) (run P L i) (run P L j)))

further-further : (x : Next) (f g : State → ℕ) (r : State → Next) (h : State → ℕ) → ((m : State) → h m ≡ f m + further (r m) g) → suc (further x h) ≡ suc (further x f) + further (then x r) g
further-further (goes m) f g r h e = rw e (omega arith)
further-further (ends c o) f g r h e = refl

-- the steps that i + j make are those of i, and those of j where the run goes on
pub steps_then : (P : Program) (L : Limits) (i j : ℕ) (m : State) → steps_made P L (i + j) m ≡ steps_made P L i m + further (run P L i m) (steps_made P L j)
unfolding run steps_made
steps_then P L zero j m = rw (zero-add j, zero-add (steps_made P L j m))
steps_then P L (suc i) j m = rw (suc-add i j) (further-further (step P L m) _ _ _ _ (λ n. steps_then P L i j n))

module _ {P : Program} {L : Limits} where
  pub run-add : {i j : ℕ} {m n : State} {x : Next} → Run P L i m (goes n) → Run P L j n x → Run P L (i + j) m x
  run-add {i} {j} {m} h g = record { is = run-then P L i j m ∙ rw h.is g.is }

  pub run_none : {m : State} → Run P L 0 m (goes m)
  unfolding run
  run_none = record { is = refl }

  pub run-one : {m : State} {x : Next} → Step P L m x → Run P L 1 m x
  unfolding run
  run-one {x = x} h = record { is = rw h.is (then-goes x) }

  -- an ending is for good
  pub ended-stays : {i j : ℕ} {m : State} {e : Ending} {o : Effects} → Run P L i m (ends e o) → i ≤ j → Run P L j m (ends e o)
  ended-stays {i} {j} {m} h b =
      let e : j ≡ i + (j - i) = omega arith in
      record { is = rw e (run-then P L i (j - i) m ∙ rw h.is) }
