-- A register of a frame is written, and a call is left.
use Rattle.std.proofs.Common.{◌≡◌, ℕ, suc, ◌+◌, ◌*◌, ◌<◌, ◌≤◌, List, length, get_or, take, set, Some, Ok, Err, Option, sym, ap, ◌∙◌, subst, inl, inr, arith}
use Rattle.std.proofs.lemmas.Bool.{cases_lt, lt-ltb, le-ltb}
use Rattle.text.specs.Memory.{Memory}
use Rattle.store.specs.declared.value.Value.{Value}
use Rattle.store.specs.Val.{meaning, end_of}
use Rattle.machine.specs.declared.ending.Ending.{Ending}
use Rattle.machine.specs.declared.ending.Ending.TheVariants.{Stuck, Finished}
use Rattle.machine.specs.Limits.{registers_per_frame}
use Rattle.machine.specs.Outcome.{◌>>=◌}
use Rattle.machine.specs.Instr.{Program, fetch}
use Rattle.machine.specs.State.{write, World, at}
use Rattle.machine.specs.Step.{into, return}
use Rattle.operands.specs.Slots.{registers_of, Within}
use Rattle.operands.proofs.Slots.{slot-set, slot-within}
use Rattle.calls.specs.declared.frame.Frame.{Frame}
use Rattle.calls.specs.Frames.{window, no_frame, callers_of, state_at, LiveIn, target_of}
use Rattle.calls.proofs.Windows.{window-kept, window-set, front-set, length-window, callers-kept}

module _ (xs ys : List (Option Value)) (k a : ℕ) (v : Value) (e : ys ≡ set xs (registers_per_frame * k + a) (Some v)) (low : a < registers_per_frame) (sized : registers_per_frame * k + registers_per_frame ≤ length xs) where
  written : window ys k ≡ set (window xs k) a (Some v)
  written = ap (λ (z : List (Option Value)). window z k) e ∙ window-set xs k a (Some v)

  front_kept : take (registers_per_frame * k) ys ≡ take (registers_per_frame * k) xs
  front_kept = ap (take (registers_per_frame * k)) e ∙ front-set xs k a (Some v)

  -- the frame has the value in its register
  pub register-written : (m : Memory) → registers_of m (window ys k) ≡ write (registers_of m (window xs k)) a (meaning m v)
  register-written m = ap (registers_of m) written ∙ slot-set m (window xs k) a v (let l = length-window xs k sized in omega arith)

  -- its callers stay
  pub callers-written : (m : Memory) (fs gs : List Frame) → ((j : ℕ) → j < k → get_or gs j no_frame ≡ get_or fs j no_frame) → callers_of m ys gs k ≡ callers_of m xs fs k
  callers-written m fs gs same = callers-kept m xs ys fs gs k front_kept same

  pub written-within : (u : ℕ) → LiveIn u xs k → end_of v ≤ u → LiveIn u ys k
  written-within u h f j l =
      elim (cases_lt j k) [
        | inl b ↦ subst (Within u) (sym (window-kept xs ys (registers_per_frame * k) j front_kept (omega arith))) (h j (omega arith))
        | inr b ↦
            let e : j ≡ k = omega arith in
            subst (λ i. Within u (window ys i)) (sym e)
            (subst (Within u) (sym written) (λ i. slot-within u (window xs k) a v (let n = length-window xs k sized in omega arith) (h k (omega arith)) f i))
      ]

module _ (P : Program) (m : Memory) (W : World) (xs : List (Option Value)) (fs : List Frame) (n : ℕ) (v : Value) where
  pub leave-last : n ≡ 0 → return P (meaning m v) (callers_of m xs fs n) W ≡ Err Finished
  unfolding callers_of
  leave-last e = rw e

  module _ (k : ℕ) (e : n ≡ suc k) where
    latest : return P (meaning m v) (callers_of m xs fs n) W ≡ target_of (fetch P (get_or fs k no_frame).function.0 (get_or fs k no_frame).pc.0) >>= (λ a. into a (Ok (meaning m v)) (at (get_or fs k no_frame).function.0 (get_or fs k no_frame).pc.0 (registers_of m (window xs k)) (callers_of m xs fs k) W))
    unfolding callers_of
    latest = rw e

    pub leave-stuck : (c : Ending) → Err c ≡ target_of (fetch P (get_or fs k no_frame).function.0 (get_or fs k no_frame).pc.0) → return P (meaning m v) (callers_of m xs fs n) W ≡ Err c
    leave-stuck c h = latest ∙ rw (← h)

    module _ (a : ℕ) (h : Ok a ≡ target_of (fetch P (get_or fs k no_frame).function.0 (get_or fs k no_frame).pc.0)) where
      pub leave-nowhere : registers_per_frame ≤ a → return P (meaning m v) (callers_of m xs fs n) W ≡ Err Stuck
      leave-nowhere l = latest ∙ rw (← h, le-ltb a registers_per_frame l)

      pub leave-goes : (ys : List (Option Value)) (gs : List Frame) (v' : ℕ) (t : Frame) → a < registers_per_frame → registers_per_frame * k + registers_per_frame ≤ length xs → ys ≡ set xs (registers_per_frame * k + a) (Some v) → t.function.0 ≡ (get_or fs k no_frame).function.0 → t.pc.0 ≡ suc (get_or fs k no_frame).pc.0 → v' ≡ k → ((j : ℕ) → j < k → get_or gs j no_frame ≡ get_or fs j no_frame) → return P (meaning m v) (callers_of m xs fs n) W ≡ Ok (state_at m ys gs v' t W)
      unfolding state_at
      leave-goes ys gs v' t low sized ey ef ep ew same =
          let regs = ap (λ i. registers_of m (window ys i)) ew ∙ register-written xs ys k a v ey low sized m in
          let callers = ap (callers_of m ys gs) ew ∙ callers-written xs ys k a v ey low sized m fs gs same in
          latest ∙ rw (← h, lt-ltb a registers_per_frame low) (λ i. Ok (at (sym ef i) (sym ep i) (sym regs i) (sym callers i) W))
