use Rattle.std.proofs.Common.{◌≡◌, ℕ, ◌+◌, ◌<◌, ◌≤◌, ◌⊎◌, List, ◌++◌, map, take, get_or}
use Rattle.text.specs.Memory.{Memory}
use Rattle.machine.specs.Instr.{Instr, Program, instr}
use Rattle.code.specs.declared.table.Record.{Record}
use Rattle.code.specs.Laying.{end_of, Lays}
use Rattle.code.proofs.table.Open.lay_all.Given as goal

abbrev pub invariant-loop-instruction : goal.invariant-loop-instruction
invariant-loop-instruction l =
    record {
      laid : (m : Memory) (P : Program) (c : List Instr) → Lays m l.fn.records l.fn.self P c → Lays m l.records l.self P (c ++ map (instr m) (take l.instruction-index l.code));
      here : end_of l.self.current ≡ end_of l.fn.self.current + l.instruction-index;
      origins : (i : ℕ) (d : Record) → end_of l.fn.self.current ≤ i → i < end_of l.self.current → (get_or l.records i d).origin ≡ l.origin;
      elsewhere : (i : ℕ) (d : Record) → (i < end_of l.fn.self.current) ⊎ (end_of l.self.current ≤ i) → get_or l.records i d ≡ get_or l.fn.records i d;
    }
