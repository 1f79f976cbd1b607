-- A step is what the instruction at its place does.
use Rattle.std.proofs.Common.{◌≡◌, ℕ, ◌≤◌, List, Some, None, Ok, Err, Option, Result, sym, ap, ◌∙◌, subst}
use Rattle.store.specs.declared.Store.{Ghosts}
use Rattle.machine.specs.declared.ending.Ending.{Ending}
use Rattle.machine.specs.declared.ending.Ending.TheVariants.{Stuck}
use Rattle.machine.specs.Limits.{Limits}
use Rattle.machine.specs.Outcome.{◌>>=◌, need}
use Rattle.machine.specs.Instr.{Instr, Program, fetch, instr}
use Rattle.machine.specs.State.{State, at, world_of, ends}
use Rattle.machine.specs.Step.{exec, next_of, step}
use Rattle.operands.specs.Answering.{constant_end}
use Rattle.code.specs.declared.table.Extent.{Extent}
use Rattle.code.specs.declared.table.Record.{Record}
use Rattle.code.specs.declared.table.Sealed.{Sealed}
use Rattle.code.specs.Programs.{meant_record, program_of, StandsAt}
use Rattle.calls.specs.Frames.{state_at}
use Rattle.vm.specs.Standing.{Lent, memory_at, CodeWithin, Stands, Does, Steps}

-- the instruction at the place of a state
abbrev fetch_in : Program → State → Option Instr
fetch_in P (at f pc R S W) = fetch P f pc

step-fetched : (P : Program) (L : Limits) (m : State) (i : Instr) → fetch_in P m ≡ Some i → step P L m ≡ next_of (world_of m).effects (exec P L i m)
unfolding step
step-fetched P L (at f pc R S W) i h = ap (λ (o : Option Instr). next_of W.effects (need o >>= (λ j. exec P L j (at f pc R S W)))) h

step-nowhere : (P : Program) (L : Limits) (m : State) → fetch_in P m ≡ None → step P L m ≡ ends Stuck (world_of m).effects
unfolding step
step-nowhere P L (at f pc R S W) h = ap (λ (o : Option Instr). next_of W.effects (need o >>= (λ j. exec P L j (at f pc R S W)))) h

does-steps : (P : Program) (L : Limits) (m : State) (i : Instr) (r : Result (Unit {0}) Ending) (stands : State → Type 0) → fetch_in P m ≡ Some i → Does (exec P L i m) m r stands → Steps (step P L m) m r stands
does-steps P L m i (Ok _) stands f h = (h.0, step-fetched P L m i f ∙ ap (next_of (world_of m).effects) h.1, h.2)
does-steps P L m i (Err e) stands f h = (step-fetched P L m i f ∙ ap (next_of (world_of m).effects) h.0, h.1)

module _ {S : Type 0} (G : Ghosts S) (st : S) (l : Lent) (P : Program) (L : Limits) (m : State) (s : Stands G st l P L m) where
  fetched : (o : Option Record) → meant_record (memory_at l) o ≡ fetch (program_of (memory_at l) l.code.sealed.now l.code.records.now) l.run.frames.running.function.0 l.run.frames.running.pc.0 → fetch_in P m ≡ meant_record (memory_at l) o
  unfolding state_at
  fetched o h = (λ k. fetch_in (s.program k) (s.state k)) ∙ sym h

  pub some-steps : (x : Record) (q : Result (Unit {0}) Ending) (stands : State → Type 0) → meant_record (memory_at l) (Some x) ≡ fetch (program_of (memory_at l) l.code.sealed.now l.code.records.now) l.run.frames.running.function.0 l.run.frames.running.pc.0 → Does (exec P L (instr (memory_at l) x.instruction) m) m q stands → Steps (step P L m) m q stands
  some-steps x q stands h d = does-steps P L m _ q stands (fetched (Some x) h) d

  pub none-ends : meant_record (memory_at l) None ≡ fetch (program_of (memory_at l) l.code.sealed.now l.code.records.now) l.run.frames.running.function.0 l.run.frames.running.pc.0 → Steps (step P L m) m (Err Stuck) (Stands G st l P L)
  none-ends h = (step-nowhere P L m (fetched None h), s)

-- a constant that is fetched is one of the code's
pub constant-within : (u : ℕ) (s : Sealed) (xs : List Record) (f pc : ℕ) (x : Record) → CodeWithin u s xs → StandsAt s xs f pc x → constant_end x.instruction ≤ u
constant-within u s xs f pc x h k =
    let d : Extent = record { start = 0; len = 0 } in
    subst (λ (z : Record). constant_end z.instruction ≤ u) (k.is d) (h f d k.function pc x (k.place d))
