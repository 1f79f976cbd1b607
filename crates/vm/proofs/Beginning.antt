-- Memory that nothing was done in stands for the state that a run begins with.
use Rattle.std.proofs.Common.{◌≡◌, ◌-◌, [], length, take, sym, refl, ◌∙◌, arith}
use Rattle.store.specs.declared.Store.{Ghosts}
use Rattle.machine.specs.Limits.{Limits}
use Rattle.machine.specs.Effects.{nothing_yet}
use Rattle.machine.specs.State.{World, passed, at, initial}
use Rattle.effects.specs.declared.spent.Spent.{Spent}
use Rattle.effects.specs.Spending.{effects_of}
use Rattle.operands.specs.Globals.{globals_of, GlobalsWithin}
use Rattle.code.specs.Programs.{program_of}
use Rattle.calls.specs.Frames.{LiveWithin}
use Rattle.calls.specs.Calling.{state_in}
use Rattle.vm.specs.Standing.{Lent, content_of, memory_at, limits_of, CodeWithin, Stands}

nothing-spent : (p : Spent) → p.strings.count ≡ 0 → p.strings.used ≡ 0 → p.output.printed ≡ 0 → nothing_yet (length p.output.bytes.now) ≡ effects_of p
nothing-spent p es eb ep =
    let l : length p.output.bytes.now ≡ length p.output.bytes.now - p.output.printed = omega arith in
    (λ i. record { strings = sym es i; bytes = sym eb i; output = take (sym ep i) p.output.bytes.now; left = l i })

pub stands-initially : {S : Type 0} (G : Ghosts S) (st : S) (l : Lent) (L : Limits) → ((W : World) → at 0 0 (passed []) [] W ≡ state_in (content_of l) W) → LiveWithin l.run.spent.strings.used l.run.frames → globals_of (memory_at l) l.run.globals ≡ [] → GlobalsWithin 0 l.run.globals → l.run.spent.strings.count ≡ 0 → l.run.spent.strings.used ≡ 0 → l.run.spent.output.printed ≡ 0 → G.holds st (memory_at l) [] → G.within st l.run.spent.strings.used → CodeWithin 0 l.code.sealed.now l.code.records.now → limits_of G st ≡ L → Stands G st l (program_of (memory_at l) l.code.sealed.now l.code.records.now) L (initial (length l.run.spent.output.bytes.now))
stands-initially G st l L state live globals gw es eb ep held sw code el =
    record {
      tables = [];
      state = state _ ∙ (λ i. state_in (content_of l) (record { tables = []; globals = sym globals i; effects = nothing-spent l.run.spent es eb ep i }));
      program = refl;
      space = sym el;
      held = held;
      store-within = sw;
      live-within = live;
      globals-within = λ i d b. let h = gw i d b in omega arith;
      code-within = λ f d b i e k. let h = code f d b i e k in omega arith;
    }
