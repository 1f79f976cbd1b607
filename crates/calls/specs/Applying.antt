-- What the machine's own functions answer to the registers of a call, and what they leave. Assumes nothing.
use Rattle.std.specs.Prelude.{◌≡◌, ℕ, suc, ◌-◌, ◌<◌, ◌≤◌, List, ℤ, Ok, Err, Result}
use Rattle.std.specs.Fmt.{signed_decimal}
use Rattle.text.specs.declared.span.Span.{Span}
use Rattle.text.specs.Memory.{Memory}
use Rattle.text.specs.Agree.{Grown}
use Rattle.store.specs.declared.value.Value.{Value}
use Rattle.store.specs.Val.{Val, meaning, end_of}
use Rattle.machine.specs.declared.builtin.Builtin.{Builtin}
use Rattle.machine.specs.declared.ending.Ending.{Ending}
use Rattle.machine.specs.Outcome.{Outcome, ◌>>=◌}
use Rattle.machine.specs.Effects.{Effects, print}
use Rattle.machine.specs.Builtin.{one, two, apply}
use Rattle.machine.specs.State.{Registers}
use Rattle.machine.specs.Operands.{values_from}
use Rattle.effects.specs.declared.literals.Literals.{Literals}
use Rattle.effects.specs.declared.strings.Strings.{Strings}
use Rattle.effects.specs.declared.output.Output.{Output}
use Rattle.effects.specs.declared.spent.Spent.{Spent}
use Rattle.effects.specs.Spending.{memory_with, SameSlice, effects_with, effects_of, Makes}

-- the arguments of a call: the registers from the first to the last
abbrev pub arguments_at : Registers → ℕ → ℕ → Outcome (List Val)
arguments_at R first last = values_from R first (suc last - first)

-- the argument of a call that has only one, and of one that has two
abbrev pub only_at : Registers → ℕ → ℕ → Outcome Val
only_at R first last = arguments_at R first last >>= one

abbrev pub both_at : Registers → ℕ → ℕ → Outcome (Val × Val)
both_at R first last = arguments_at R first last >>= two

-- the memory that strings lie in
abbrev pub memory_in : Literals → Spent → Memory
memory_in l p = memory_with l p.strings.bytes.now

-- the same lender's memory
pub record SameSpace (p q : Spent) : Type 0 where
  pub strings : SameSlice p.strings.bytes q.strings.bytes
  pub output : SameSlice p.output.bytes q.output.bytes

abbrev pub both_answered : Memory → Result (Value × Value) Ending → Outcome (Val × Val)
both_answered m (Ok p) = Ok (meaning m p.0, meaning m p.1)
both_answered m (Err e) = Err e

abbrev pub BothEnd : ℕ → Result (Value × Value) Ending → Type 0
BothEnd u (Ok p) = (end_of p.0 ≤ u) × (end_of p.1 ≤ u)
BothEnd u (Err e) = Unit {0}

-- an answer goes to the first register passed, so that one is there
abbrev pub There : {A : Type 0} → ℕ → ℕ → Result A Ending → Type 0
There first n (Ok v) = first < n
There first n (Err e) = Unit {0}

-- what a print leaves of a value, or nothing changed
abbrev pub Shows : Outcome (List ℕ) → Output → Result (Unit {0}) Ending → Output → Type 0
Shows x o (Ok u) q = (p : Strings) → (x >>= (λ s. print s (effects_with p o))) ≡ Ok (effects_with p q)
Shows x o (Err e) q = ((p : Strings) → (x >>= (λ s. print s (effects_with p o))) ≡ Err e) × (q ≡ o)

-- what a new string of an integer leaves, or nothing changed
abbrev pub Spells : Outcome ℤ → Strings → Result Span Ending → Strings → Type 0
Spells (Ok n) p r q = Makes (signed_decimal n) p r q
Spells (Err e) p r q = (r ≡ Err e) × (q ≡ p)

-- the answer, with the effects that it leaves; strings made before stay
pub record Answers (l : Literals) (x : Outcome (Val × Effects)) (v : Value) (p q : Spent) : Type 0 where
  pub answer : x ≡ Ok (meaning (memory_in l q) v, effects_of q)
  pub grown : Grown p.strings.used (memory_in l p) (memory_in l q)
  pub more : p.strings.used ≤ q.strings.used
  pub ends : end_of v ≤ q.strings.used

-- an answer, or an ending that changes nothing
abbrev pub Applied : Literals → Outcome (Val × Effects) → Spent → Result Value Ending → Spent → Type 0
Applied l x p (Ok v) q = Answers l x v p q
Applied l x p (Err e) q = (x ≡ Err e) × (q ≡ p)

-- what a function of the machine answers to registers
abbrev pub apply_at : Builtin → Registers → ℕ → ℕ → Effects → Outcome (Val × Effects)
apply_at b R first last o = arguments_at R first last >>= (λ vs. apply b vs o)

-- a value beside effects that it leaves as they are
abbrev pub beside : Effects → Outcome Val → Outcome (Val × Effects)
beside o x = x >>= (λ v. Ok (v, o))
