-- How many instructions a program has, and the classes that a rule may stand on. Assumes nothing.
use Rattle.std.specs.Prelude.{ℕ, ◌+◌, ◌<◌, [], ◌∷◌, length}
use Rattle.std.specs.List.{AllByRecursion}
use Rattle.machine.specs.Instr.{Instr, Program}
use Rattle.grammar.specs.Measure.{MethodsWithin}
use Rattle.rube.specs.Classes.{Classes}

-- the instructions of all functions
abbrev pub instructions : Program → ℕ
instructions [] = 0
instructions (c ∷ cs) = length c + instructions cs

-- every method of every class is within the limits
abbrev pub ClassesWithin : {A : Type 0} → Classes A → Type 0
ClassesWithin P = AllByRecursion (λ K. MethodsWithin K.methods) P

-- the global that an instruction reads or writes, if it does, is below n
abbrev pub GlobalBelow : ℕ → Instr → Type 0
GlobalBelow n (Instr.const a v) = Unit {0}
GlobalBelow n (Instr.mov a b) = Unit {0}
GlobalBelow n (Instr.arith o a b c) = Unit {0}
GlobalBelow n (Instr.eq a b c) = Unit {0}
GlobalBelow n (Instr.ordered o a b c) = Unit {0}
GlobalBelow n (Instr.is_kind k a b) = Unit {0}
GlobalBelow n (Instr.jmp d) = Unit {0}
GlobalBelow n (Instr.if_zero a d) = Unit {0}
GlobalBelow n (Instr.rd_glob a g) = g < n
GlobalBelow n (Instr.wr_glob g a) = g < n
GlobalBelow n (Instr.mk_tab a) = Unit {0}
GlobalBelow n (Instr.rd_tab a b c) = Unit {0}
GlobalBelow n (Instr.wr_tab a b c) = Unit {0}
GlobalBelow n (Instr.has_tab a b c) = Unit {0}
GlobalBelow n (Instr.call a first last) = Unit {0}
GlobalBelow n (Instr.ret a) = Unit {0}
GlobalBelow n (Instr.halt a) = Unit {0}

-- every global of the program is below n
abbrev pub GlobalsBelow : ℕ → Program → Type 0
GlobalsBelow n C = AllByRecursion (AllByRecursion (GlobalBelow n)) C
