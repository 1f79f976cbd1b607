-- What a run has spent, and what a print or a new string leaves of it. Assumes nothing.
use Rattle.std.specs.Prelude.{◌≡◌, ℕ, suc, ◌+◌, ◌-◌, ◌≤◌, List, length, take, Ok, Err, Result}
use Rattle.std.specs.Borrow.{MutBor}
use Rattle.text.specs.declared.span.Span.{Span}
use Rattle.text.specs.declared.span.Space.TheVariants.{Made}
use Rattle.text.specs.Memory.{Memory}
use Rattle.machine.specs.declared.ending.Ending.{Ending}
use Rattle.machine.specs.declared.ending.Ending.TheVariants.{NoOutputSpace}
use Rattle.machine.specs.Effects.{Effects, charge, print}
use Rattle.effects.specs.declared.literals.Literals.{Literals}
use Rattle.effects.specs.declared.strings.Strings.{Strings}
use Rattle.effects.specs.declared.output.Output.{Output}
use Rattle.effects.specs.declared.spent.Spent.{Spent}
use Rattle.effects.specs.Laid.{laid}

-- the bytes that strings refer to, beside those made
abbrev pub memory_with : Literals → List ℕ → Memory
memory_with l made = record { fixed = l.fixed.now; texts = l.texts.now; made = made }

-- the same lender's slice, whatever it now holds
pub record SameSlice {X : Type 0} (b c : MutBor (List X)) : Type 0 where
  pub lender : c.ghost_name ≡ b.ghost_name
  pub long : length c.now ≡ length b.now

-- the effects that strings and output stand for
abbrev pub effects_with : Strings → Output → Effects
effects_with s o =
    record { strings = s.count; bytes = s.used; output = take o.printed o.bytes.now; left = length o.bytes.now - o.printed }

abbrev pub effects_of : Spent → Effects
effects_of p = effects_with p.strings p.output

-- where n more bytes of output end, if there is room for them
abbrev pub Room : ℕ → Output → Result ℕ Ending → Type 0
Room n o (Ok e) = (e ≡ o.printed + n) × (e ≤ length o.bytes.now)
Room n o (Err e) = (e ≡ NoOutputSpace) × (suc (length o.bytes.now) ≤ o.printed + n)

-- a print of s: what fits is laid behind what was printed, what does not changes nothing
abbrev pub Prints : List ℕ → Output → Result (Unit {0}) Ending → Output → Type 0
Prints s o (Ok u) q = ((p : Strings) → print s (effects_with p o) ≡ Ok (effects_with p q)) × (q.bytes.now ≡ laid o.bytes.now o.printed s)
Prints s o (Err e) q = ((p : Strings) → print s (effects_with p o) ≡ Err e) × (q ≡ o)

-- where a string of n bytes goes: behind those made before
abbrev pub behind : Strings → ℕ → Span
behind p n = record { space = Made; start = p.used; len = n }

-- a string of n bytes is charged, or nothing changed
abbrev pub Charges : ℕ → Strings → Result Span Ending → Strings → Type 0
Charges n p (Ok t) q = (o : Output) → charge n (effects_with p o) ≡ Ok (effects_with q o)
Charges n p (Err e) q = ((o : Output) → charge n (effects_with p o) ≡ Err e) × (q ≡ p)

-- a string of n bytes that was charged lies in the bytes lent
abbrev pub Behind : ℕ → Strings → Result Span Ending → Strings → Type 0
Behind n p (Ok t) q = (t ≡ behind p n) × (q.used ≡ p.used + n)
Behind n p (Err e) q = q ≡ p

-- a new string s: what fits is laid behind those made before, what does not changes nothing
abbrev pub Makes : List ℕ → Strings → Result Span Ending → Strings → Type 0
Makes s p (Ok t) q =
    ((o : Output) → charge (length s) (effects_with p o) ≡ Ok (effects_with q o))
    × (t ≡ behind p (length s))
    × (q.bytes.now ≡ laid p.bytes.now p.used s)
Makes s p (Err e) q = ((o : Output) → charge (length s) (effects_with p o) ≡ Err e) × (q ≡ p)
