-- The instructions that answer a value for a register, and what they answer. Assumes nothing.
use Rattle.std.specs.Prelude.{ℕ, Some, None, Ok, Option}
use Rattle.text.specs.Memory.{Memory}
use Rattle.store.specs.Val.{Val, end_of}
use Rattle.store.specs.Tables.{Table, Tables}
use Rattle.machine.specs.declared.instruction.Instruction.{Instruction}
use Rattle.machine.specs.declared.instruction.Instruction.TheVariants as code
use Rattle.machine.specs.Outcome.{Outcome}
use Rattle.machine.specs.Instr.{Instr}
use Rattle.machine.specs.State.{Registers}
use Rattle.machine.specs.Operands.{value_at, arith_at, same_at, ordered_at, kind_at, key_at, has_key_at, global_at}
use Rattle.operands.specs.declared.answer.Answer.{Answer}
use Rattle.operands.specs.Slots.{answered, EndsBy}

-- the register that takes the answer, and the answer
abbrev pub answer_of : Instr → Registers → Tables → Table → Option (ℕ × Outcome Val)
answer_of (Instr.const a v) R T G = Some (a, Ok v)
answer_of (Instr.mov a b) R T G = Some (a, value_at R b)
answer_of (Instr.arith o a b c) R T G = Some (a, arith_at o R b c)
answer_of (Instr.eq a b c) R T G = Some (a, same_at R b c)
answer_of (Instr.ordered o a b c) R T G = Some (a, ordered_at o R b c)
answer_of (Instr.is_kind k a b) R T G = Some (a, kind_at k R b)
answer_of (Instr.jmp n) R T G = None
answer_of (Instr.if_zero a n) R T G = None
answer_of (Instr.rd_glob a g) R T G = Some (a, global_at G g)
answer_of (Instr.wr_glob g a) R T G = None
answer_of (Instr.mk_tab a) R T G = None
answer_of (Instr.rd_tab a b c) R T G = Some (a, key_at T R b c)
answer_of (Instr.wr_tab a b c) R T G = None
answer_of (Instr.has_tab a b c) R T G = Some (a, has_key_at T R b c)
answer_of (Instr.call a first last) R T G = None
answer_of (Instr.ret a) R T G = None
answer_of (Instr.halt a) R T G = None

abbrev pub meant_answer : Memory → Option Answer → Option (ℕ × Outcome Val)
meant_answer m None = None
meant_answer m (Some r) = Some (r.target.0, answered m r.value)

-- where an instruction's constant ends among the strings made
abbrev pub constant_end : Instruction → ℕ
constant_end (code.Const a v) = end_of v
constant_end (code.Mov a b) = 0
constant_end (code.Add a b c) = 0
constant_end (code.Sub a b c) = 0
constant_end (code.Mul a b c) = 0
constant_end (code.Div a b c) = 0
constant_end (code.Eq a b c) = 0
constant_end (code.Lt a b c) = 0
constant_end (code.Leq a b c) = 0
constant_end (code.IsInt a b) = 0
constant_end (code.IsStr a b) = 0
constant_end (code.IsTab a b) = 0
constant_end (code.Jmp n) = 0
constant_end (code.IfZero a n) = 0
constant_end (code.RdGlob a g) = 0
constant_end (code.WrGlob g a) = 0
constant_end (code.MkTab a) = 0
constant_end (code.RdTab a b c) = 0
constant_end (code.WrTab a b c) = 0
constant_end (code.HasTab a b c) = 0
constant_end (code.Call a b c) = 0
constant_end (code.Ret a) = 0
constant_end (code.Halt a) = 0

abbrev pub AnswerWithin : ℕ → Option Answer → Type 0
AnswerWithin u None = Unit {0}
AnswerWithin u (Some r) = EndsBy u r.value
