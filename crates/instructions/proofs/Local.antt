-- An instruction that stays in its frame does what its step says.
use Rattle.std.proofs.Common.{◌≡◌, ℕ, suc, Bool, true, false, cond, ltb, List, [], ◌∷◌, ◌++◌, length, ℤ, Some, None, Ok, Err, sym, refl, ap, ◌∙◌}
use Rattle.store.specs.Val.{Val}
use Rattle.store.specs.Tables as store
use Rattle.store.specs.Tables.{Table, Tables, put, takes}
use Rattle.machine.specs.declared.ending.Ending.{Ending}
use Rattle.machine.specs.declared.ending.Ending.TheVariants.{Stuck, NoTableSpace}
use Rattle.machine.specs.Limits.{Limits, registers_per_frame}
use Rattle.machine.specs.Outcome.{Outcome, ◌>>=◌, unless}
use Rattle.machine.specs.Instr.{Instr, Program}
use Rattle.machine.specs.State.{Registers, write, Frame, World, with_tables, with_globals, State, at}
use Rattle.machine.specs.Operands.{value_at, table_at, is_zero, arith_at, same_at, ordered_at, kind_at, key_at, has_key_at, global_at}
use Rattle.machine.specs.Step.{into, jump, holds_global, set_global, make_table, set_key, exec}
use Rattle.operands.specs.Answering.{answer_of}
use Rattle.instructions.specs.Local.{Local, set_at, into_at, jump_from, if_zero_from, set_global_at, make_at, set_key_at, act, local, Stays}

bind-bind : {A B C : Type 0} (x : Outcome A) (f : A → Outcome B) (g : B → Outcome C) → (x >>= f) >>= g ≡ x >>= (λ a. f a >>= g)
bind-bind (Ok a) f g = refl
bind-bind (Err e) f g = refl

bind-cong : {A B : Type 0} (x : Outcome A) (f g : A → Outcome B) → ((a : A) → f a ≡ g a) → (x >>= f) ≡ (x >>= g)
bind-cong (Ok a) f g h = h a
bind-cong (Err e) f g h = refl

unless-bind : {A B : Type 0} (e : Ending) (b : Bool) (x : Outcome A) (f : A → Outcome B) → unless e b x >>= f ≡ unless e b (x >>= f)
unless-bind e true x f = refl
unless-bind e false x f = refl

cond-bind : {A B : Type 0} (b : Bool) (x y : Outcome A) (f : A → Outcome B) → cond b x y >>= f ≡ cond b (x >>= f) (y >>= f)
cond-bind true x y f = refl
cond-bind false x y f = refl

module _ (P : Program) (L : Limits) (f pc : ℕ) (R : Registers) (S : List Frame) (W : World) where
  -- the state that an instruction leaves
  abbrev pub left : Local → Outcome State
  left x = Ok (at f x.pc x.registers S (record { tables = x.tables; globals = x.globals; effects = W.effects }))

  into-local : (a : ℕ) (x : Outcome Val) → into a x (at f pc R S W) ≡ into_at a x pc R W.tables W.globals >>= left
  into-local a x =
      sym (unless-bind Stuck (ltb a registers_per_frame) (x >>= (λ v. Ok record { pc = suc pc; registers = write R a v; tables = W.tables; globals = W.globals })) left
      ∙ ap (unless Stuck (ltb a registers_per_frame)) (bind-bind x (λ v. Ok record { pc = suc pc; registers = write R a v; tables = W.tables; globals = W.globals }) left))

  jump-local : (n : ℤ) → jump n (at f pc R S W) ≡ jump_from pc n >>= (λ p. Ok record { pc = p; registers = R; tables = W.tables; globals = W.globals }) >>= left
  jump-local n = sym (bind-bind (jump_from pc n) (λ p. Ok record { pc = p; registers = R; tables = W.tables; globals = W.globals }) left)

  if-local : (a : ℕ) (n : ℤ) → (value_at R a >>= (λ x. cond (is_zero x) (jump n (at f pc R S W)) (Ok (at f (suc pc) R S W)))) ≡ if_zero_from pc R a n >>= (λ p. Ok record { pc = p; registers = R; tables = W.tables; globals = W.globals }) >>= left
  if-local a n =
      sym (bind-bind (if_zero_from pc R a n) (λ p. Ok record { pc = p; registers = R; tables = W.tables; globals = W.globals }) left
      ∙ bind-bind (value_at R a) (λ x. cond (is_zero x) (jump_from pc n) (Ok (suc pc))) (λ p. Ok (at f p R S W))
      ∙ bind-cong (value_at R a) _ _ (λ x. cond-bind (is_zero x) (jump_from pc n) (Ok (suc pc)) (λ p. Ok (at f p R S W))))

  global-local : (g a : ℕ) → (value_at R a >>= (λ v. set_global g v (at f pc R S W))) ≡ set_global_at R a g W.globals >>= (λ H. Ok record { pc = suc pc; registers = R; tables = W.tables; globals = H }) >>= left
  global-local g a =
      sym (bind-bind (set_global_at R a g W.globals) (λ H. Ok record { pc = suc pc; registers = R; tables = W.tables; globals = H }) left
      ∙ bind-bind (value_at R a) (λ v. unless Stuck (holds_global g W.globals) (Ok (put (Val.identifier g) v W.globals))) (λ H. Ok (at f (suc pc) R S (with_globals H W)))
      ∙ bind-cong (value_at R a) _ _ (λ v. unless-bind Stuck (holds_global g W.globals) (Ok (put (Val.identifier g) v W.globals)) (λ H. Ok (at f (suc pc) R S (with_globals H W)))))

  make-local : (a : ℕ) → make_table L a (at f pc R S W) ≡ make_at L.tables a W.tables >>= (λ l. Ok record { pc = suc pc; registers = write R a (Val.location l); tables = W.tables ++ [] ∷ []; globals = W.globals }) >>= left
  make-local a = elim (ltb a registers_per_frame) as (λ b. unless Stuck b (unless NoTableSpace (ltb (length W.tables) L.tables) (Ok (at f (suc pc) (write R a (Val.location (length W.tables))) S (with_tables (W.tables ++ [] ∷ []) W)))) ≡ unless Stuck b (unless NoTableSpace (ltb (length W.tables) L.tables) (Ok (length W.tables))) >>= (λ l. Ok record { pc = suc pc; registers = write R a (Val.location l); tables = W.tables ++ [] ∷ []; globals = W.globals }) >>= left) [
    | true ↦ room (ltb (length W.tables) L.tables)
    | false ↦ refl
  ]
    where
      room : (b : Bool) → unless NoTableSpace b (Ok (at f (suc pc) (write R a (Val.location (length W.tables))) S (with_tables (W.tables ++ [] ∷ []) W))) ≡ unless NoTableSpace b (Ok (length W.tables)) >>= (λ l. Ok record { pc = suc pc; registers = write R a (Val.location l); tables = W.tables ++ [] ∷ []; globals = W.globals }) >>= left
      room true = refl
      room false = refl

  key-local : (a b c : ℕ) → (table_at W.tables R a >>= (λ l. value_at R b >>= (λ k. value_at R c >>= (λ v. set_key L l k v (at f pc R S W))))) ≡ set_key_at L.pairs W.tables R a b c >>= (λ U. Ok record { pc = suc pc; registers = R; tables = U; globals = W.globals }) >>= left
  key-local a b c =
      sym (bind-bind (set_key_at L.pairs W.tables R a b c) (λ U. Ok record { pc = suc pc; registers = R; tables = U; globals = W.globals }) left
      ∙ bind-bind (table_at W.tables R a) _ done
      ∙ bind-cong (table_at W.tables R a) _ _ (λ l.
      bind-bind (value_at R b) _ done
      ∙ bind-cong (value_at R b) _ _ (λ k.
      bind-bind (value_at R c) _ done
      ∙ bind-cong (value_at R c) _ _ (λ v. unless-bind NoTableSpace (takes L.pairs W.tables l k) (Ok (store.write W.tables l k v)) done))))
    where
      done : Tables → Outcome State
      done U = Ok (at f (suc pc) R S (with_tables U W))

  -- each instruction that stays in its frame
  pub exec-local : (i : Instr) → Stays i → exec P L i (at f pc R S W) ≡ local L i pc R W.tables W.globals >>= left
  unfolding exec local
  exec-local (Instr.const a v) h = into-local a (Ok v)
  exec-local (Instr.mov a b) h = into-local a (value_at R b)
  exec-local (Instr.arith o a b c) h = into-local a (arith_at o R b c)
  exec-local (Instr.eq a b c) h = into-local a (same_at R b c)
  exec-local (Instr.ordered o a b c) h = into-local a (ordered_at o R b c)
  exec-local (Instr.is_kind k a b) h = into-local a (kind_at k R b)
  exec-local (Instr.jmp n) h = jump-local n
  exec-local (Instr.if_zero a n) h = if-local a n
  exec-local (Instr.rd_glob a g) h = into-local a (global_at W.globals g)
  exec-local (Instr.wr_glob g a) h = global-local g a
  exec-local (Instr.mk_tab a) h = make-local a
  exec-local (Instr.rd_tab a b c) h = into-local a (key_at W.tables R b c)
  exec-local (Instr.wr_tab a b c) h = key-local a b c
  exec-local (Instr.has_tab a b c) h = into-local a (has_key_at W.tables R b c)
  exec-local (Instr.call a first last) h = absurd h
  exec-local (Instr.ret a) h = absurd h
  exec-local (Instr.halt a) h = absurd h

-- an instruction that answers a value, told by the registers after it
module _ (L : Limits) (i : Instr) (pc : ℕ) (R : Registers) (T : Tables) (G : Table) where
  pub local-acts : None ≡ answer_of i R T G → local L i pc R T G ≡ act L i pc R T G
  unfolding local
  local-acts e = rw (← e)

  module _ (a : ℕ) (x : Outcome Val) (e : Some (a, x) ≡ answer_of i R T G) where
    into-set : local L i pc R T G ≡ set_at a x R >>= (λ Q. Ok record { pc = suc pc; registers = Q; tables = T; globals = G })
    unfolding local
    into-set =
        rw (← e)
        (sym (unless-bind Stuck (ltb a registers_per_frame) (x >>= (λ v. Ok (write R a v))) (λ Q. Ok record { pc = suc pc; registers = Q; tables = T; globals = G })
        ∙ ap (unless Stuck (ltb a registers_per_frame)) (bind-bind x (λ v. Ok (write R a v)) (λ Q. Ok record { pc = suc pc; registers = Q; tables = T; globals = G }))))

    pub local-set : (p : ℕ) (Q : Registers) → p ≡ suc pc → Ok Q ≡ set_at a x R → local L i pc R T G ≡ Ok record { pc = p; registers = Q; tables = T; globals = G }
    local-set p Q f h = into-set ∙ rw (← h, f)

    pub local-refused : (c : Ending) → Err c ≡ set_at a x R → local L i pc R T G ≡ Err c
    local-refused c h = into-set ∙ rw (← h)
