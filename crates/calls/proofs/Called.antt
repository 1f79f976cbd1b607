-- A call does what its step says.
use Rattle.std.proofs.Common.{◌≡◌, ℕ, suc, ◌+◌, ◌*◌, ◌<◌, ◌≤◌, length, set, Some, None, Ok, Err, Result, sym, refl, ap, ◌∙◌, subst, arith}
use Rattle.text.specs.Meanings.{grown-none}
use Rattle.store.specs.declared.value.Value.{Value}
use Rattle.store.specs.Val.{meaning}
use Rattle.store.specs.Tables.{Table, Tables}
use Rattle.machine.specs.declared.builtin.Builtin.{Builtin}
use Rattle.machine.specs.declared.ending.Ending.{Ending}
use Rattle.machine.specs.Limits.{registers_per_frame}
use Rattle.machine.specs.Outcome.{Outcome, ◌>>=◌}
use Rattle.machine.specs.Builtin.{builtin_of, apply}
use Rattle.machine.specs.State.{write, with_effects, State, at}
use Rattle.machine.specs.Operands.{function_at}
use Rattle.effects.specs.declared.spent.Spent.{Spent}
use Rattle.effects.specs.Spending.{effects_of}
use Rattle.operands.specs.Slots.{registers_of}
use Rattle.stack.specs.Held.{held}
use Rattle.calls.specs.declared.frame.Frames.{Frames}
use Rattle.calls.specs.Applying.{arguments_at, memory_in, Answers, apply_at}
use Rattle.calls.specs.Frames.{window, callers_of, waiting, state_at, LiveIn, LiveWithin, Moved, enter_from}
use Rattle.calls.specs.Calling.{Content, content, memory_of, world_in, state_in, answer_from, call_from, Went, Called}
use Rattle.calls.proofs.Growing.{registers-grown, callers-grown, live-wider}
use Rattle.calls.proofs.Writing.{register-written, callers-written, written-within}

bind-bind : {A B C : Type 0} (x : Outcome A) (f : A → Outcome B) (g : B → Outcome C) → (x >>= f) >>= g ≡ x >>= (λ a. f a >>= g)
bind-bind (Ok a) f g = refl
bind-bind (Err e) f g = refl

module _ (k : Builtin) (g first last : ℕ) (T : Tables) (G : Table) (b : Content) where
  -- where the answer goes
  answered : answer_from k g first last (state_in b (world_in T G b)) ≡ apply_at k (registers_of (memory_of b) (window b.frames.registers.now (waiting b.frames))) first last (effects_of b.spent) >>= (λ r. Ok (at b.frames.running.function.0 (suc b.frames.running.pc.0) (write (registers_of (memory_of b) (window b.frames.registers.now (waiting b.frames))) first r.0) (callers_of (memory_of b) b.frames.registers.now (held b.frames.callers) (waiting b.frames)) (with_effects r.1 (world_in T G b))))
  unfolding state_at
  answered = sym (bind-bind (arguments_at (registers_of (memory_of b) (window b.frames.registers.now (waiting b.frames))) first last) (λ vs. apply k vs (effects_of b.spent)) _)

  pub answer-ends : (e : Ending) → apply_at k (registers_of (memory_of b) (window b.frames.registers.now (waiting b.frames))) first last (effects_of b.spent) ≡ Err e → answer_from k g first last (state_in b (world_in T G b)) ≡ Err e
  answer-ends e h = answered ∙ rw h

  -- the answer stands in its register, and the frame goes on
  pub answer-goes : (v : Value) (q : Spent) (f : Frames) → Answers b.literals (apply_at k (registers_of (memory_of b) (window b.frames.registers.now (waiting b.frames))) first last (effects_of b.spent)) v b.spent q → f.registers.now ≡ set b.frames.registers.now (registers_per_frame * (waiting b.frames) + first) (Some v) → first < registers_per_frame → registers_per_frame * (waiting b.frames) + registers_per_frame ≤ length b.frames.registers.now → (held f.callers) ≡ (held b.frames.callers) → f.running.function.0 ≡ b.frames.running.function.0 → f.running.pc.0 ≡ suc b.frames.running.pc.0 → (waiting f) ≡ (waiting b.frames) → LiveIn b.spent.strings.used b.frames.registers.now (waiting b.frames) → Went b T G (answer_from k g first last (state_in b (world_in T G b))) (content b.literals q f)
  unfolding state_at
  answer-goes v q f h ey low sized ec ef ep ew live =
      let m = (memory_of b) in
      let n = (memory_in b.literals q) in
      let xs = b.frames.registers.now in
      let w = (waiting b.frames) in
      let regs = ap (λ k. registers_of n (window f.registers.now k)) ew ∙ register-written xs f.registers.now w first v ey low sized n ∙ ap (λ R. write R first (meaning n v)) (sym (registers-grown b.spent.strings.used m n h.grown (window xs w) (live w (omega arith)))) in
      let callers = (λ i. callers_of n f.registers.now (ec i) (ew i)) ∙ callers-written xs f.registers.now w first v ey low sized n (held b.frames.callers) (held b.frames.callers) (λ j l. refl) ∙ sym (callers-grown b.spent.strings.used m n h.grown xs (held b.frames.callers) w (λ k l. live k (omega arith))) in
      record {
        state = answered ∙ rw h.answer (λ i. Ok (at (sym ef i) (sym ep i) (sym regs i) (sym callers i) (world_in T G (content b.literals q f))));
        grown = h.grown;
        more = h.more;
        live = subst (LiveIn q.strings.used f.registers.now) (sym ew) (written-within xs f.registers.now w first v ey low sized q.strings.used (live-wider b.spent.strings.used q.strings.used xs w h.more live) h.ends);
      }

module _ (a first last : ℕ) (T : Tables) (G : Table) (b : Content) where
  -- the register names no function
  pub call-nothing : (e : Ending) → Err e ≡ function_at (registers_of (memory_of b) (window b.frames.registers.now (waiting b.frames))) a → call_from a first last (state_in b (world_in T G b)) ≡ Err e
  unfolding state_at
  call-nothing e h = rw (← h)

  module _ (g : ℕ) (h : Ok g ≡ function_at (registers_of (memory_of b) (window b.frames.registers.now (waiting b.frames))) a) where
    -- one of the machine's own, or another
    pub call-answers : (k : Builtin) → Some k ≡ builtin_of g → call_from a first last (state_in b (world_in T G b)) ≡ answer_from k g first last (state_in b (world_in T G b))
    unfolding state_at
    call-answers k e = rw (← h, ← e)

    pub call_enters : None ≡ builtin_of g → call_from a first last (state_in b (world_in T G b)) ≡ enter_from g first last (state_in b (world_in T G b))
    unfolding state_at
    call_enters e = rw (← h, ← e)

-- the same by another name
pub called-as : (b : Content) (T : Tables) (G : Table) (x y : Outcome State) (r : Result (Unit {0}) Ending) (e : Content) → x ≡ y → Called b T G y r e → Called b T G x r e
called-as b T G x y r e p h = subst (λ (z : Outcome State). Called b T G z r e) (sym p) h

-- a new frame leaves strings and output as they are
pub entered-called : (b : Content) (T : Tables) (G : Table) (x : Outcome State) (r : Result (Unit {0}) Ending) (g : Frames) → Moved (memory_of b) (world_in T G b) x r b.frames g → LiveWithin b.spent.strings.used g → Called b T G x r (content b.literals b.spent g)
entered-called b T G x (Ok u) g h l = record { state = h; grown = grown-none b.spent.strings.used (memory_of b); more = omega arith; live = l }
entered-called b T G x (Err c) g h l = (h.0, λ i. content b.literals b.spent (h.1 i))
