-- What an instruction leaves stands for the state that it leads to.
use Rattle.std.proofs.Common.{◌≡◌, ℕ, ◌≤◌, length, Ok, Err, Result, sym, refl, ap, ◌∙◌, subst}
use Rattle.text.specs.Memory.{Memory}
use Rattle.text.specs.Agree.{Grown}
use Rattle.store.specs.declared.Store.{Ghosts}
use Rattle.store.specs.Tables.{Table, Tables}
use Rattle.machine.specs.declared.ending.Ending.{Ending}
use Rattle.machine.specs.declared.instruction.Instruction.{Instruction}
use Rattle.machine.specs.declared.instruction.Instruction.TheVariants as code
use Rattle.machine.specs.declared.instruction.Register.{Register}
use Rattle.machine.specs.Limits.{Limits}
use Rattle.machine.specs.Outcome.{Outcome}
use Rattle.machine.specs.Instr.{Instr, Program, instr}
use Rattle.machine.specs.State.{State, at}
use Rattle.machine.specs.Step.{exec}
use Rattle.effects.specs.Spending.{effects_of}
use Rattle.operands.specs.declared.globals.Globals.{Globals}
use Rattle.operands.specs.Globals.{globals_of, GlobalsWithin}
use Rattle.instructions.specs.Local.{Stays}
use Rattle.code.specs.Programs.{program_of}
use Rattle.stack.specs.Held.{held}
use Rattle.effects.specs.declared.spent.Spent.{Spent}
use Rattle.calls.specs.declared.frame.Frames.{Frames}
use Rattle.calls.specs.Frames.{state_at, state_of, LiveWithin, Moved}
use Rattle.calls.specs.Calling.{Content, content, memory_of, world_in, state_in, call_from, Called}
use Rattle.vm.specs.Standing.{Lent, lent, content_of, memory_at, limits_of, state_with, Stands, Does, Unmoved, Stayed, return_from, halt_from}
use Rattle.vm.proofs.Growth.{globals-grown, program-grown, globals-wider, code-wider}

exec-call : (P : Program) (L : Limits) (a b c : ℕ) (m : State) → exec P L (Instr.call a b c) m ≡ call_from a b c m
unfolding exec
exec-call P L a b c (at f pc R S W) = refl

exec-return : (P : Program) (L : Limits) (a : ℕ) (m : State) → exec P L (Instr.ret a) m ≡ return_from P a m
unfolding exec
exec-return P L a (at f pc R S W) = refl

exec-halt : (P : Program) (L : Limits) (a : ℕ) (m : State) → exec P L (Instr.halt a) m ≡ halt_from a m
unfolding exec
exec-halt P L a (at f pc R S W) = refl

-- all but three instructions stay in their frame
pub staying : (m : Memory) (i : Instruction) → ((a b c : Register) → i ≡ code.Call a b c → ⊥) → ((a : Register) → i ≡ code.Ret a → ⊥) → ((a : Register) → i ≡ code.Halt a → ⊥) → Stays (instr m i)
staying m (code.Const a v) p q r = tt
staying m (code.Mov a b) p q r = tt
staying m (code.Add a b c) p q r = tt
staying m (code.Sub a b c) p q r = tt
staying m (code.Mul a b c) p q r = tt
staying m (code.Div a b c) p q r = tt
staying m (code.Eq a b c) p q r = tt
staying m (code.Lt a b c) p q r = tt
staying m (code.Leq a b c) p q r = tt
staying m (code.IsInt a b) p q r = tt
staying m (code.IsStr a b) p q r = tt
staying m (code.IsTab a b) p q r = tt
staying m (code.Jmp k) p q r = tt
staying m (code.IfZero a k) p q r = tt
staying m (code.RdGlob a k) p q r = tt
staying m (code.WrGlob k a) p q r = tt
staying m (code.MkTab a) p q r = tt
staying m (code.RdTab a b c) p q r = tt
staying m (code.WrTab a b c) p q r = tt
staying m (code.HasTab a b c) p q r = tt
staying m (code.Call a b c) p q r = p a b c refl
staying m (code.Ret a) p q r = q a refl
staying m (code.Halt a) p q r = r a refl

pub does-as : (x y : Outcome State) (m : State) (r : Result (Unit {0}) Ending) (stands : State → Type 0) → x ≡ y → Does y m r stands → Does x m r stands
does-as x y m r stands e h = subst (λ (z : Outcome State). Does z m r stands) (sym e) h

module _ {S : Type 0} (G : Ghosts S) (st : S) (l : Lent) (P : Program) (L : Limits) (m : State) (s : Stands G st l P L m) where
  abbrev globals : Table
  globals = globals_of (memory_at l) l.run.globals

  -- what is lent, with other strings, output and frames
  abbrev pub with_content : Content → Lent
  with_content b = lent l.code (record { frames = b.frames; globals = l.run.globals; spent = b.spent })

  -- a call leaves the store and the globals; they mean the same beside more strings
  called-stands : ((u : ℕ) (m n : Memory) (T : Tables) → G.within st u → Grown u m n → G.holds st m T → G.holds st n T) → ((u v : ℕ) → u ≤ v → G.within st u → G.within st v) → (x : Outcome State) (q : Result (Unit {0}) Ending) (p : Spent) (f : Frames) → Called (content_of l) s.tables globals x q (content l.code.literals p f) → Does x m q (Stands G st (with_content (content l.code.literals p f)) P L)
  called-stands grows wider x (Ok _) p f h =
      let u = l.run.spent.strings.used in
      let v = p.strings.used in
      let e = content l.code.literals p f in
      let a = memory_at l in
      let b = memory_of e in (
        state_in e (world_in s.tables globals e),
        h.state,
        record {
          tables = s.tables;
          state = ap (λ (z : Table). state_in e (world_in s.tables z e)) (globals-grown u a b h.grown l.run.globals s.globals-within);
          program = s.program ∙ program-grown u a b h.grown l.code.sealed.now l.code.records.now s.code-within;
          space = s.space;
          held = grows u a b s.tables s.store-within h.grown s.held;
          store-within = wider u v h.more s.store-within;
          live-within = h.live;
          globals-within = globals-wider u v h.more l.run.globals s.globals-within;
          code-within = code-wider u v h.more l.code.sealed.now l.code.records.now s.code-within;
        },
      )
  called-stands grows wider x (Err c) p f h = (h.0, subst (λ (z : Content). Stands G st (with_content z) P L m) (sym h.1) s)

  pub call-does : ((u : ℕ) (m n : Memory) (T : Tables) → G.within st u → Grown u m n → G.holds st m T → G.holds st n T) → ((u v : ℕ) → u ≤ v → G.within st u → G.within st v) → (i : Instr) (a b c : ℕ) (q : Result (Unit {0}) Ending) (p : Spent) (f : Frames) → i ≡ Instr.call a b c → Called (content_of l) s.tables globals (call_from a b c (state_with l s.tables)) q (content l.code.literals p f) → Does (exec P L i m) m q (Stands G st (with_content (content l.code.literals p f)) P L)
  call-does grows wider i a b c q p f is h =
      does-as _ _ m q _ (ap (λ (j : Instr). exec P L j m) is ∙ exec-call P L a b c m ∙ ap (call_from a b c) s.state) (called-stands grows wider _ q p f h)

  -- a move of the frames leaves everything else
  moved-stands : (x : Outcome State) (q : Result (Unit {0}) Ending) (f : Frames) → Moved (memory_at l) (world_in s.tables globals (content_of l)) x q l.run.frames f → LiveWithin l.run.spent.strings.used f → Does x m q (Stands G st (with_content (content l.code.literals l.run.spent f)) P L)
  moved-stands x (Ok _) f h live = (
    _,
    h,
    record {
      tables = s.tables;
      state = refl;
      program = s.program;
      space = s.space;
      held = s.held;
      store-within = s.store-within;
      live-within = live;
      globals-within = s.globals-within;
      code-within = s.code-within;
    },
  )
  moved-stands x (Err c) f h live =
      (h.0, subst (λ (z : Frames). Stands G st (with_content (content l.code.literals l.run.spent z)) P L m) (sym h.1) s)

  pub return-does : (i : Instr) (a : ℕ) (q : Result (Unit {0}) Ending) (f : Frames) → i ≡ Instr.ret a → Moved (memory_at l) (world_in s.tables globals (content_of l)) (return_from (program_of (memory_at l) l.code.sealed.now l.code.records.now) a (state_with l s.tables)) q l.run.frames f → LiveWithin l.run.spent.strings.used f → Does (exec P L i m) m q (Stands G st (with_content (content l.code.literals l.run.spent f)) P L)
  return-does i a q f is h live =
      does-as _ _ m q _ (ap (λ (j : Instr). exec P L j m) is ∙ exec-return P L a m ∙ (λ k. return_from (s.program k) a (s.state k))) (moved-stands _ q f h live)

  pub halt-does : (i : Instr) (a : ℕ) (e : Ending) → i ≡ Instr.halt a → halt_from a (state_with l s.tables) ≡ Err e → Does (exec P L i m) m (Err e) (Stands G st l P L)
  halt-does i a e is h = (ap (λ (j : Instr). exec P L j m) is ∙ exec-halt P L a m ∙ ap (halt_from a) s.state ∙ h, s)

  -- an instruction that stays leaves its frame, the tables and the globals
  stayed : (st' : S) (i : Instr) (q : Result (Unit {0}) Ending) (f : Frames) (h : Globals) → limits_of G st' ≡ limits_of G st → Stayed (λ U. Ok (state_of (memory_at l) f (record { tables = U; globals = globals_of (memory_at l) h; effects = effects_of l.run.spent }))) (exec P (limits_of G st) i (state_with l s.tables)) q (Unmoved l.run.frames f × (h ≡ l.run.globals)) (G.holds st' (memory_at l)) s.tables → LiveWithin l.run.spent.strings.used f × GlobalsWithin l.run.spent.strings.used h × G.within st' l.run.spent.strings.used → Does (exec P L i m) m q (Stands G st' (lent l.code (record { frames = f; globals = h; spent = l.run.spent })) P L)
  stayed st' i (Ok _) f h es x w = (
    _,
    (λ k. exec P (s.space k) i (s.state k)) ∙ x.1,
    record {
      tables = x.0;
      state = refl;
      program = s.program;
      space = s.space ∙ sym es;
      held = x.2;
      store-within = w.2;
      live-within = w.0;
      globals-within = w.1;
      code-within = s.code-within;
    },
  )
  stayed st' i (Err e) f h es x w =
      let same = x.1 in (
        (λ k. exec P (s.space k) i (s.state k)) ∙ x.0,
        record {
          tables = s.tables;
          state = s.state ∙ (λ k. state_at (memory_at l) (sym same.0.registers k) (held (sym same.0.callers k)) (length (held (sym same.0.callers k))) (sym same.0.running k) (record { tables = s.tables; globals = globals_of (memory_at l) (sym same.1 k); effects = effects_of l.run.spent }));
          program = s.program;
          space = s.space ∙ sym es;
          held = x.2;
          store-within = w.2;
          live-within = w.0;
          globals-within = w.1;
          code-within = s.code-within;
        },
      )

  pub stay-does : (n : Memory) → n ≡ memory_at l → (st' : S) (i : Instruction) (q : Result (Unit {0}) Ending) (f : Frames) (h : Globals) → limits_of G st' ≡ limits_of G st → (G.holds st n s.tables → Stayed (λ U. Ok (state_of n f (record { tables = U; globals = globals_of n h; effects = effects_of l.run.spent }))) (exec P (limits_of G st) (instr n i) (state_of n l.run.frames (record { tables = s.tables; globals = globals_of n l.run.globals; effects = effects_of l.run.spent }))) q (Unmoved l.run.frames f × (h ≡ l.run.globals)) (G.holds st' n) s.tables) → LiveWithin l.run.spent.strings.used f × GlobalsWithin l.run.spent.strings.used h × G.within st' l.run.spent.strings.used → Does (exec P L (instr (memory_at l) i) m) m q (Stands G st' (lent l.code (record { frames = f; globals = h; spent = l.run.spent })) P L)
  stay-does n e st' i q f h es x w =
      stayed st' (instr (memory_at l) i) q f h es
      (subst (λ (z : Memory). Stayed (λ U. Ok (state_of z f (record { tables = U; globals = globals_of z h; effects = effects_of l.run.spent }))) (exec P (limits_of G st) (instr z i) (state_of z l.run.frames (record { tables = s.tables; globals = globals_of z l.run.globals; effects = effects_of l.run.spent }))) q (Unmoved l.run.frames f × (h ≡ l.run.globals)) (G.holds st' z) s.tables) e
      (x (subst (λ (z : Memory). G.holds st z s.tables) (sym e) s.held))) w
