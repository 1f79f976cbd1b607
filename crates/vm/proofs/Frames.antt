-- Instructions seen from the frame that they run in.
use Rattle.std.proofs.Common.{◌≡◌, ℕ, ◌+◌, ◌-◌, ◌*◌, ◌≤◌, List, length, take, drop, Ok, Err, Option, Result, sym, refl, ap, ◌∙◌, subst, inl, inr, arith, rules}
use borrow.Rule.Slice.PartMut.{put_mid, take_put}
use Rattle.std.proofs.lemmas.Bool.{cases_lt}
use Rattle.std.proofs.lemmas.List.{places}
use Rattle.text.specs.Memory.{Memory}
use Rattle.store.specs.declared.value.Value.{Value}
use Rattle.store.specs.Val.{Val}
use Rattle.store.specs.Tables.{Table, Tables}
use Rattle.machine.specs.declared.ending.Ending.{Ending}
use Rattle.machine.specs.Limits.{Limits, registers_per_frame}
use Rattle.machine.specs.Outcome.{Outcome, ◌>>=◌}
use Rattle.machine.specs.Effects.{Effects}
use Rattle.machine.specs.Instr.{Instr, Program}
use Rattle.machine.specs.State.{World, State, at}
use Rattle.machine.specs.Operands.{value_at}
use Rattle.machine.specs.Step.{return, halted, exec}
use Rattle.operands.specs.Slots.{registers_of, Within}
use Rattle.instructions.specs.Local.{local, Stays}
use Rattle.instructions.proofs.Local.{exec-local}
use Rattle.calls.specs.declared.frame.Frame.{Frame}
use Rattle.calls.specs.declared.frame.Frames.{Frames}
use Rattle.stack.specs.Held.{held}
use Rattle.calls.specs.Frames.{waiting, window, callers_of, callers_in, state_at, state_of, LiveIn, Moved}
use Rattle.calls.proofs.Windows.{part-window, window-put, window-kept, callers-kept}
use Rattle.vm.specs.Standing.{return_from, halt_from}

module _ (m : Memory) (f : Frames) (W : World) (a : ℕ) (ys : List (Option Value)) (here : ys ≡ window f.registers.now (waiting f)) where
  -- a register of the running frame, as it is lent
  value-here : value_at (registers_of m ys) a ≡ value_at (registers_of m (window f.registers.now (waiting f))) a
  value-here = ap (λ (z : List (Option Value)). value_at (registers_of m z) a) here

  pub halt-with : (v : Val) → Ok v ≡ value_at (registers_of m ys) a → halt_from a (state_of m f W) ≡ Err (halted v)
  unfolding state_at
  halt-with v h = rw (← value-here, ← h)

  pub halt-without : (e : Ending) → Err e ≡ value_at (registers_of m ys) a → halt_from a (state_of m f W) ≡ Err e
  unfolding state_at
  halt-without e h = rw (← value-here, ← h)

  pub return-with : (P : Program) (v : Val) → Ok v ≡ value_at (registers_of m ys) a → return_from P a (state_of m f W) ≡ return P v (callers_in m f) W
  unfolding state_at
  return-with P v h = rw (← value-here, ← h)

  pub return-without : (P : Program) (e : Ending) → Err e ≡ value_at (registers_of m ys) a → return_from P a (state_of m f W) ≡ Err e
  unfolding state_at
  return-without P e h = rw (← value-here, ← h)

-- the same move by another name
pub moved_as : (m : Memory) (W : World) (x y : Outcome State) (r : Result (Unit {0}) Ending) (f g : Frames) → x ≡ y → Moved m W y r f g → Moved m W x r f g
moved_as m W x y r f g e h = subst (λ (z : Outcome State). Moved m W z r f g) (sym e) h

-- the registers of the running frame, from its base on
pub lent-window : (xs : List (Option Value)) (b w : ℕ) → b ≡ registers_per_frame * w → take (b + registers_per_frame - b) (drop b xs) ≡ window xs w
lent-window xs b w e = ap (λ n. take (n + registers_per_frame - n) (drop n xs)) e ∙ part-window xs w

-- the same after they were lent
module _ (xs zs : List (Option Value)) (b w : ℕ) (base : b ≡ registers_per_frame * w) (sized : registers_per_frame * w + registers_per_frame ≤ length xs) (len : length zs ≡ registers_per_frame) where
  abbrev after : List (Option Value)
  after = put_mid b (b + registers_per_frame - b) xs zs

  front : take (registers_per_frame * w) after ≡ take (registers_per_frame * w) xs
  front = ap (λ n. take n after) (sym base) ∙ take_put b _ xs zs (omega arith) ∙ ap (λ n. take n xs) base

  running-after : window after w ≡ zs
  running-after = window-put xs zs _ b w base (omega arith) len

  pub lent-within : (u : ℕ) → LiveIn u xs w → Within u zs → LiveIn u after w
  lent-within u h f k l =
      elim (cases_lt k w) [
        | inl a ↦ subst (Within u) (sym (window-kept xs after (registers_per_frame * w) k front (omega arith))) (h k (omega arith))
        | inr b ↦ let e : k ≡ w = omega arith in subst (λ i. Within u (window after i)) (sym e) (subst (Within u) (sym running-after) f)
      ]

  pub lent-long : length after ≡ length xs
  lent-long = search (rules, places)

  pub state-after : (m : Memory) (fs : List Frame) (t : Frame) (W : World) → state_at m after fs w t W ≡ at t.function.0 t.pc.0 (registers_of m zs) (callers_of m xs fs w) W
  unfolding state_at
  state-after m fs t W =
      let regs = ap (registers_of m) running-after in
      let callers = callers-kept m xs after fs fs w front (λ j l. refl) in
      (λ i. at t.function.0 t.pc.0 (regs i) (callers i) W)

-- an instruction that stays in its frame is a step of the state
module _ (P : Program) (L : Limits) (i : Instr) (s : Stays i) (m : Memory) (f : Frames) (T : Tables) (G : Table) (o : Effects) (ys : List (Option Value)) (here : ys ≡ window f.registers.now (waiting f)) where
  seen : exec P L i (state_of m f (record { tables = T; globals = G; effects = o })) ≡ local L i f.running.pc.0 (registers_of m ys) T G >>= (λ x. Ok (at f.running.function.0 x.pc x.registers (callers_in m f) (record { tables = x.tables; globals = x.globals; effects = o })))
  unfolding state_at
  seen =
      exec-local P L f.running.function.0 f.running.pc.0 (registers_of m (window f.registers.now (waiting f))) (callers_in m f) (record { tables = T; globals = G; effects = o }) i s
      ∙ ap (λ (z : List (Option Value)). local L i f.running.pc.0 (registers_of m z) T G >>= (λ x. Ok (at f.running.function.0 x.pc x.registers (callers_in m f) (record { tables = x.tables; globals = x.globals; effects = o })))) (sym here)

  pub stay-ends : (e : Ending) → local L i f.running.pc.0 (registers_of m ys) T G ≡ Err e → exec P L i (state_of m f (record { tables = T; globals = G; effects = o })) ≡ Err e
  stay-ends e h = seen ∙ rw h

  pub stay-goes : (zs : List (Option Value)) (b p : ℕ) (U : Tables) (H : Table) (t : Frame) → b ≡ registers_per_frame * waiting f → registers_per_frame * waiting f + registers_per_frame ≤ length f.registers.now → length zs ≡ registers_per_frame → local L i f.running.pc.0 (registers_of m ys) T G ≡ Ok (record { pc = p; registers = registers_of m zs; tables = U; globals = H }) → t.function.0 ≡ f.running.function.0 → t.pc.0 ≡ p → exec P L i (state_of m f (record { tables = T; globals = G; effects = o })) ≡ Ok (state_at m (put_mid b (b + registers_per_frame - b) f.registers.now zs) (held f.callers) (waiting f) t (record { tables = U; globals = H; effects = o }))
  stay-goes zs b p U H t base sized len h ef ep =
      seen ∙ rw h (λ k. Ok (at (sym ef k) (sym ep k) (registers_of m zs) (callers_in m f) (record { tables = U; globals = H; effects = o })))
      ∙ ap Ok (sym (state-after f.registers.now zs b (waiting f) base sized len m (held f.callers) t (record { tables = U; globals = H; effects = o })))
