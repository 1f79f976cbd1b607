-- Globals and code mean the same once more strings are made.
use Rattle.std.proofs.Common.{◌≡◌, ℕ, suc, ◌<◌, ◌≤◌, List, All, [], ◌∷◌, map, length, get_or, take, refl, ap, arith}
use Rattle.text.specs.Memory.{Memory}
use Rattle.text.specs.Agree.{Grown}
use Rattle.store.specs.Val.{Val, end_of}
use Rattle.store.specs.ValuesLemmas.{meaning-grown}
use Rattle.machine.specs.declared.instruction.Instruction.{Instruction}
use Rattle.machine.specs.declared.instruction.Instruction.TheVariants as code
use Rattle.machine.specs.Instr.{Instr, instr}
use Rattle.operands.specs.declared.globals.Globals.{Globals}
use Rattle.operands.specs.declared.globals.Global.{Global}
use Rattle.operands.specs.Globals.{filed, globals_of, GlobalsWithin}
use Rattle.operands.specs.Answering.{constant_end}
use Rattle.code.specs.declared.table.Record.{Record}
use Rattle.code.specs.declared.table.Extent.{Extent}
use Rattle.code.specs.declared.table.Sealed.{Sealed}
use Rattle.code.specs.Programs.{meant, code_at, program_at, program_of, records_at}
use Rattle.vm.specs.Standing.{RecordsWithin, CodeWithin}

module _ (u : ℕ) (m n : Memory) (g : Grown u m n) where
  entries-grown : (es : List Global) → All (λ (e : Global). end_of e.value ≤ u) es → map (filed m) es ≡ map (filed n) es
  entries-grown [] h = refl
  entries-grown (e ∷ es) h = (λ i. (Val.identifier e.name.0, meaning-grown u m n e.value g (h 0 e (omega arith)) i) ∷ entries-grown es (λ i d l. h (suc i) d (omega arith)) i)

  pub globals-grown : (G : Globals) → GlobalsWithin u G → globals_of m G ≡ globals_of n G
  unfolding globals_of
  globals-grown G h = entries-grown G.entries.items h

  instr-grown : (i : Instruction) → constant_end i ≤ u → instr m i ≡ instr n i
  instr-grown (code.Const a v) h = ap (Instr.const a.0) (meaning-grown u m n v g h)
  instr-grown (code.Mov a b) h = refl
  instr-grown (code.Add a b c) h = refl
  instr-grown (code.Sub a b c) h = refl
  instr-grown (code.Mul a b c) h = refl
  instr-grown (code.Div a b c) h = refl
  instr-grown (code.Eq a b c) h = refl
  instr-grown (code.Lt a b c) h = refl
  instr-grown (code.Leq a b c) h = refl
  instr-grown (code.IsInt a b) h = refl
  instr-grown (code.IsStr a b) h = refl
  instr-grown (code.IsTab a b) h = refl
  instr-grown (code.Jmp k) h = refl
  instr-grown (code.IfZero a k) h = refl
  instr-grown (code.RdGlob a k) h = refl
  instr-grown (code.WrGlob k a) h = refl
  instr-grown (code.MkTab a) h = refl
  instr-grown (code.RdTab a b c) h = refl
  instr-grown (code.WrTab a b c) h = refl
  instr-grown (code.HasTab a b c) h = refl
  instr-grown (code.Call a b c) h = refl
  instr-grown (code.Ret a) h = refl
  instr-grown (code.Halt a) h = refl

  records-grown : (xs : List Record) → RecordsWithin u xs → map (meant m) xs ≡ map (meant n) xs
  records-grown [] h = refl
  records-grown (x ∷ xs) h = (λ i. instr-grown x.instruction (h 0 x (omega arith)) i ∷ records-grown xs (λ i d l. h (suc i) d (omega arith)) i)

  code-grown : (xs : List Record) (e : Extent) → RecordsWithin u (records_at xs e) → code_at m xs e ≡ code_at n xs e
  unfolding code_at
  code-grown xs e h = records-grown (records_at xs e) h

  functions-grown : (xs : List Record) (es : List Extent) → ((f : ℕ) (d : Extent) → f < length es → RecordsWithin u (records_at xs (get_or es f d))) → map (code_at m xs) es ≡ map (code_at n xs) es
  functions-grown xs [] h = refl
  functions-grown xs (e ∷ es) h = (λ i. code-grown xs e (h 0 e (omega arith)) i ∷ functions-grown xs es (λ f d l. h (suc f) d (omega arith)) i)

  pub program-grown : (s : Sealed) (xs : List Record) → CodeWithin u s xs → program_of m s xs ≡ program_of n s xs
  unfolding program_at
  program-grown s xs h = functions-grown xs (take s.functions s.extents) h

module _ (u v : ℕ) (l : u ≤ v) where
  pub globals-wider : (G : Globals) → GlobalsWithin u G → GlobalsWithin v G
  globals-wider G h i d b = let a = h i d b in omega arith

  pub code-wider : (s : Sealed) (xs : List Record) → CodeWithin u s xs → CodeWithin v s xs
  code-wider s xs h f d b i e k = let a = h f d b i e k in omega arith
