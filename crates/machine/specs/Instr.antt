-- Instructions over values: what an instruction of the code means. Assumes nothing.
use Rattle.std.specs.Prelude.{ℕ, List, [], ℤ, Some, None, Option, slice_index_or}
use Rattle.std.specs.List.{slice_get}
use Rattle.text.specs.Memory.{Memory}
use Rattle.store.specs.Val.{Val, meaning}
use Rattle.machine.specs.declared.arith.Op.{Op}
use Rattle.machine.specs.declared.arith.Op.TheVariants as op
use Rattle.machine.specs.declared.arith.Order.{Order}
use Rattle.machine.specs.declared.arith.Order.TheVariants as order
use Rattle.machine.specs.declared.instruction.Kind.{Kind}
use Rattle.machine.specs.declared.instruction.Kind.TheVariants as kind
use Rattle.machine.specs.declared.instruction.Instruction.{Instruction}
use Rattle.machine.specs.declared.instruction.Instruction.TheVariants as code

-- the target stands first, as in the code
pub data Instr : Type 0 where
  const : ℕ → Val → Instr
  mov : ℕ → ℕ → Instr
  -- add, sub, mul, div
  arith : Op → ℕ → ℕ → ℕ → Instr
  eq : ℕ → ℕ → ℕ → Instr
  -- lt, leq
  ordered : Order → ℕ → ℕ → ℕ → Instr
  -- is_int, is_str, is_tab
  is_kind : Kind → ℕ → ℕ → Instr
  jmp : ℤ → Instr
  if_zero : ℕ → ℤ → Instr
  rd_glob : ℕ → ℕ → Instr
  wr_glob : ℕ → ℕ → Instr
  mk_tab : ℕ → Instr
  rd_tab : ℕ → ℕ → ℕ → Instr
  wr_tab : ℕ → ℕ → ℕ → Instr
  has_tab : ℕ → ℕ → ℕ → Instr
  call : ℕ → ℕ → ℕ → Instr
  ret : ℕ → Instr
  halt : ℕ → Instr

-- a function's number is its place
abbrev pub Program : Type 0
Program = List (List Instr)

-- what names no function has no instruction
unfoldable pub fetch : Program → ℕ → ℕ → Option Instr
fetch P f pc = slice_get (slice_index_or P f []) pc

-- the register that a call's answer goes to
abbrev pub answer_register : Instr → Option ℕ
answer_register (const a v) = None
answer_register (mov a b) = None
answer_register (arith o a b c) = None
answer_register (eq a b c) = None
answer_register (ordered o a b c) = None
answer_register (is_kind k a b) = None
answer_register (jmp n) = None
answer_register (if_zero a n) = None
answer_register (rd_glob a g) = None
answer_register (wr_glob g a) = None
answer_register (mk_tab a) = None
answer_register (rd_tab a b c) = None
answer_register (wr_tab a b c) = None
answer_register (has_tab a b c) = None
answer_register (call a first last) = Some first
answer_register (ret a) = None
answer_register (halt a) = None

-- an instruction of the code, over the bytes that are lent with it
abbrev pub instr : Memory → Instruction → Instr
instr m (code.Const a v) = const a.0 (meaning m v)
instr m (code.Mov a b) = mov a.0 b.0
instr m (code.Add a b c) = arith op.Add a.0 b.0 c.0
instr m (code.Sub a b c) = arith op.Sub a.0 b.0 c.0
instr m (code.Mul a b c) = arith op.Mul a.0 b.0 c.0
instr m (code.Div a b c) = arith op.Div a.0 b.0 c.0
instr m (code.Eq a b c) = eq a.0 b.0 c.0
instr m (code.Lt a b c) = ordered order.Less a.0 b.0 c.0
instr m (code.Leq a b c) = ordered order.AtMost a.0 b.0 c.0
instr m (code.IsInt a b) = is_kind kind.Integer a.0 b.0
instr m (code.IsStr a b) = is_kind kind.Text a.0 b.0
instr m (code.IsTab a b) = is_kind kind.Table a.0 b.0
instr m (code.Jmp n) = jmp n.0
instr m (code.IfZero a n) = if_zero a.0 n.0
instr m (code.RdGlob a g) = rd_glob a.0 g.0
instr m (code.WrGlob g a) = wr_glob g.0 a.0
instr m (code.MkTab a) = mk_tab a.0
instr m (code.RdTab a b c) = rd_tab a.0 b.0 c.0
instr m (code.WrTab a b c) = wr_tab a.0 b.0 c.0
instr m (code.HasTab a b c) = has_tab a.0 b.0 c.0
instr m (code.Call a b c) = call a.0 b.0 c.0
instr m (code.Ret a) = ret a.0
instr m (code.Halt a) = halt a.0
