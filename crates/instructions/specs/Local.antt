-- The instructions that stay in their frame, and what they leave. Assumes nothing.
use Rattle.std.specs.Prelude.{◌≡◌, ℕ, suc, cond, List, [], ◌∷◌, ◌++◌, length, ℤ, pos, ◌+ℤ◌, Some, None, Ok, Err, Option, Result, nat_lt}
use Rattle.text.specs.Memory.{Memory}
use Rattle.store.specs.declared.value.Value.{Value}
use Rattle.store.specs.Val.{Val}
use Rattle.store.specs.Tables as store
use Rattle.store.specs.Tables.{Table, Tables, put, takes}
use Rattle.machine.specs.declared.ending.Ending.{Ending}
use Rattle.machine.specs.declared.ending.Ending.TheVariants.{Stuck, NoTableSpace}
use Rattle.machine.specs.Limits.{registers_per_frame, Limits}
use Rattle.machine.specs.Outcome.{Outcome, ◌>>=◌, unless}
use Rattle.machine.specs.Instr.{Instr}
use Rattle.machine.specs.State.{Registers, write}
use Rattle.machine.specs.Operands.{value_at, table_at, is_zero}
use Rattle.machine.specs.Step.{landing, holds_global}
use Rattle.code.specs.declared.table.Place.{Place}
use Rattle.operands.specs.declared.globals.Globals.{Globals}
use Rattle.operands.specs.Slots.{registers_of}
use Rattle.operands.specs.Globals.{globals_of}
use Rattle.operands.specs.Answering.{answer_of}

-- what an instruction leaves of its frame, of the tables and of the globals
pub record Local : Type 0 where
  pub pc : ℕ
  pub registers : Registers
  pub tables : Tables
  pub globals : Table

abbrev pub limits : ℕ → ℕ → Limits
limits t m = record { tables = t; pairs = m }

-- where a jump leads
abbrev pub jump_from : ℕ → ℤ → Outcome ℕ
jump_from pc n = landing (pos (suc pc) +ℤ n)

abbrev pub if_zero_from : ℕ → Registers → ℕ → ℤ → Outcome ℕ
if_zero_from pc R a n = value_at R a >>= (λ x. cond (is_zero x) (jump_from pc n) (Ok (suc pc)))

-- the globals after a write
abbrev pub set_global_at : Registers → ℕ → ℕ → Table → Outcome Table
set_global_at R a g G = value_at R a >>= (λ v. unless Stuck (holds_global g G) (Ok (put (Val.identifier g) v G)))

-- the location of a new table
abbrev pub make_at : ℕ → ℕ → Tables → Outcome ℕ
make_at t a T = unless Stuck (nat_lt a registers_per_frame) (unless NoTableSpace (nat_lt (length T) t) (Ok (length T)))

-- the tables after a write
abbrev pub set_key_at : ℕ → Tables → Registers → ℕ → ℕ → ℕ → Outcome Tables
set_key_at m T R a b c =
    table_at T R a
    >>= (λ l. value_at R b
    >>= (λ k. value_at R c >>= (λ v. unless NoTableSpace (takes m T l k) (Ok (store.write T l k v)))))

-- an answer goes into its register
abbrev pub into_at : ℕ → Outcome Val → ℕ → Registers → Tables → Table → Outcome Local
into_at a x pc R T G =
    unless Stuck (nat_lt a registers_per_frame)
    (x >>= (λ v. Ok record { pc = suc pc; registers = write R a v; tables = T; globals = G }))

-- what the others do; the instructions that leave the frame do nothing here
abbrev pub act : Limits → Instr → ℕ → Registers → Tables → Table → Outcome Local
act L (Instr.const a v) pc R T G = Err Stuck
act L (Instr.mov a b) pc R T G = Err Stuck
act L (Instr.arith o a b c) pc R T G = Err Stuck
act L (Instr.eq a b c) pc R T G = Err Stuck
act L (Instr.ordered o a b c) pc R T G = Err Stuck
act L (Instr.is_kind k a b) pc R T G = Err Stuck
act L (Instr.jmp n) pc R T G =
    jump_from pc n >>= (λ p. Ok record { pc = p; registers = R; tables = T; globals = G })
act L (Instr.if_zero a n) pc R T G =
    if_zero_from pc R a n >>= (λ p. Ok record { pc = p; registers = R; tables = T; globals = G })
act L (Instr.rd_glob a g) pc R T G = Err Stuck
act L (Instr.wr_glob g a) pc R T G =
    set_global_at R a g G >>= (λ H. Ok record { pc = suc pc; registers = R; tables = T; globals = H })
act L (Instr.mk_tab a) pc R T G =
    make_at L.tables a T
    >>= (λ l. Ok record { pc = suc pc; registers = write R a (Val.location l); tables = T ++ [] ∷ []; globals = G })
act L (Instr.rd_tab a b c) pc R T G = Err Stuck
act L (Instr.wr_tab a b c) pc R T G =
    set_key_at L.pairs T R a b c >>= (λ U. Ok record { pc = suc pc; registers = R; tables = U; globals = G })
act L (Instr.has_tab a b c) pc R T G = Err Stuck
act L (Instr.call a first last) pc R T G = Err Stuck
act L (Instr.ret a) pc R T G = Err Stuck
act L (Instr.halt a) pc R T G = Err Stuck

abbrev pub answer_or : Option (ℕ × Outcome Val) → Outcome Local → ℕ → Registers → Tables → Table → Outcome Local
answer_or None x pc R T G = x
answer_or (Some r) x pc R T G = into_at r.0 r.1 pc R T G

unfoldable pub local : Limits → Instr → ℕ → Registers → Tables → Table → Outcome Local
local L i pc R T G = answer_or (answer_of i R T G) (act L i pc R T G) pc R T G

-- does the instruction stay in its frame?
abbrev pub Stays : Instr → Type 0
Stays (Instr.const a v) = Unit {0}
Stays (Instr.mov a b) = Unit {0}
Stays (Instr.arith o a b c) = Unit {0}
Stays (Instr.eq a b c) = Unit {0}
Stays (Instr.ordered o a b c) = Unit {0}
Stays (Instr.is_kind k a b) = Unit {0}
Stays (Instr.jmp n) = Unit {0}
Stays (Instr.if_zero a n) = Unit {0}
Stays (Instr.rd_glob a g) = Unit {0}
Stays (Instr.wr_glob g a) = Unit {0}
Stays (Instr.mk_tab a) = Unit {0}
Stays (Instr.rd_tab a b c) = Unit {0}
Stays (Instr.wr_tab a b c) = Unit {0}
Stays (Instr.has_tab a b c) = Unit {0}
Stays (Instr.call a first last) = ⊥
Stays (Instr.ret a) = ⊥
Stays (Instr.halt a) = ⊥

-- a place by its number
abbrev pub placed : Result Place Ending → Outcome ℕ
placed (Ok p) = Ok p.0
placed (Err e) = Err e

-- the registers after an answer
abbrev pub set_at : ℕ → Outcome Val → Registers → Outcome Registers
set_at a x R = unless Stuck (nat_lt a registers_per_frame) (x >>= (λ v. Ok (write R a v)))

abbrev pub registers_after : Memory → Result (Unit {0}) Ending → List (Option Value) → Outcome Registers
registers_after m (Ok u) xs = Ok (registers_of m xs)
registers_after m (Err e) xs = Err e

abbrev pub globals_after : Memory → Result (Unit {0}) Ending → Globals → Outcome Table
globals_after m (Ok u) g = Ok (globals_of m g)
globals_after m (Err e) g = Err e

-- a refusal leaves what was there
abbrev pub Unchanged : {X : Type 0} → Result (Unit {0}) Ending → X → X → Type 0
Unchanged (Ok u) x y = Unit {0}
Unchanged (Err e) x y = y ≡ x

-- a new table whose location is in register a, or nothing changed
abbrev pub Made : Memory → ℕ → ℕ → Tables → Result (Unit {0}) Ending → List (Option Value) → List (Option Value) → (Tables → Type 0) → Type 0
Made m t a T (Ok u) xs ys holds =
    (make_at t a T ≡ Ok (length T))
    × (registers_of m ys ≡ write (registers_of m xs) a (Val.location (length T)))
    × holds (T ++ [] ∷ [])
Made m t a T (Err e) xs ys holds = (make_at t a T ≡ Err e) × (ys ≡ xs) × holds T

-- the tables that a write leaves, or those before
abbrev pub Wrote : Outcome Tables → Tables → Result (Unit {0}) Ending → (Tables → Type 0) → Type 0
Wrote x T (Ok u) holds = (U : Tables) × (x ≡ Ok U) × holds U
Wrote x T (Err e) holds = (x ≡ Err e) × holds T

-- what an instruction that stays in its frame leaves, or nothing changed
abbrev pub Executed : Memory → Outcome Local → Tables → Result Place Ending → List (Option Value) → List (Option Value) → Globals → Globals → (Tables → Type 0) → Type 0
Executed m x T (Ok p) xs ys g h holds =
    (U : Tables) × (x ≡ Ok (record { pc = p.0; registers = registers_of m ys; tables = U; globals = globals_of m h })) × holds U
Executed m x T (Err e) xs ys g h holds = (x ≡ Err e) × (ys ≡ xs) × (h ≡ g) × holds T
