-- Straight-line pieces of code that every form uses. Assumes nothing.
use Rattle.std.specs.Prelude.{ℕ, zero, suc, ◌+◌, List, [], ◌∷◌, ◌++◌, pos, codes}
use Rattle.store.specs.Val.{Val}
use Rattle.machine.specs.declared.instruction.Kind.TheVariants.{Integer, Text}
use Rattle.machine.specs.Instr.{Instr}
use Rattle.rube.specs.Classes.{Classes}
use Rattle.compiler.specs.Layout.{class_key, nil_global, class_global, count_register, mark}

abbrev pub Code : Type 0
Code = List Instr

abbrev pub number : ℕ → Val
number n = Val.int (pos n)

-- end the run with n, by way of a register
abbrev pub halt_with : ℕ → ℕ → Code
halt_with t n = Instr.const t (number n) ∷ Instr.halt t ∷ []

-- nil into a register
abbrev pub nil_into : ℕ → Instr
nil_into t = Instr.rd_glob t nil_global

-- go on where the register is not 0, else end with n
abbrev pub require : ℕ → ℕ → Code
require t n = Instr.if_zero t (pos 1) ∷ Instr.jmp (pos 2) ∷ halt_with t n

-- 1 into d if d holds no 0, nil otherwise
abbrev pub truth_into : ℕ → ℕ → Code
truth_into t d = Instr.if_zero d (pos 2) ∷ Instr.const t (number 1) ∷ Instr.jmp (pos 1) ∷ nil_into t ∷ []

-- 1 into d where v holds nil, 0 otherwise
abbrev pub is_nil_into : ℕ → ℕ → Code
is_nil_into d v = nil_into d ∷ Instr.eq d d v ∷ []

module _ {A : Type 0} (P : Classes A) where
  -- the class table of what v holds, into d
  abbrev pub class_into : ℕ → ℕ → Code
  class_into d v =
      Instr.is_kind Integer d v
      ∷ Instr.if_zero d (pos 2)
      ∷ Instr.rd_glob d (class_global P (codes "Integer"))
      ∷ Instr.jmp (pos 6)
      ∷ Instr.is_kind Text d v
      ∷ Instr.if_zero d (pos 2)
      ∷ Instr.rd_glob d (class_global P (codes "String"))
      ∷ Instr.jmp (pos 2)
      ∷ Instr.const d class_key
      ∷ Instr.rd_tab d v d
      ∷ []

  -- the method x of the receiver in t + 1, with n arguments behind it; the answer goes to t
  unfoldable pub send : ℕ → List ℕ → ℕ → Code
  send t x n =
      class_into (t + 2 + n) (suc t)
      ++ (
      Instr.const (t + 3 + n) (Val.string x)
      ∷ Instr.has_tab (t + 4 + n) (t + 2 + n) (t + 3 + n)
      ∷ (
      require (t + 4 + n) 1
      ++ (
      Instr.rd_tab (t + 2 + n) (t + 2 + n) (t + 3 + n)
      ∷ Instr.const t (number n)
      ∷ Instr.call (t + 2 + n) t (t + 1 + n)
      ∷ []
      )
      )
      )

-- a callee's first test: as many arguments as parameters
abbrev pub count_test : ℕ → ℕ → Code
count_test t n = Instr.const t (number n) ∷ Instr.eq t t count_register ∷ require t 5

-- the mark into n registers from r on
abbrev pub marks : ℕ → ℕ → Code
marks r zero = []
marks r (suc n) = Instr.const r mark ∷ marks (suc r) n
