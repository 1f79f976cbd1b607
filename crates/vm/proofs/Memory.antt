-- The same lender's memory, and room that is kept with it.
use Rattle.std.proofs.Common.{◌∙◌, refl, arith}
use Rattle.std.specs.Borrow.{MutBor}
use Rattle.effects.specs.Spending.{SameSlice}
use Rattle.vm.specs.declared.run.Run.{Run}
use Rattle.vm.specs.Standing.{Roomy, SameMemory}
use Rattle.std.proofs.Common.{List}

slice-same : {X : Type 0} (b c d : MutBor (List X)) → SameSlice b c → SameSlice c d → SameSlice b d
slice-same b c d p q = record { lender = q.lender ∙ p.lender; long = q.long ∙ p.long }

slice-itself : {X : Type 0} (b : MutBor (List X)) → SameSlice b b
slice-itself b = record { lender = refl; long = refl }

pub memory-itself : (r : Run) → SameMemory r r
memory-itself r =
    record {
      frames = record { callers = slice-itself r.frames.callers.items; registers = slice-itself r.frames.registers };
      space = record { strings = slice-itself r.spent.strings.bytes; output = slice-itself r.spent.output.bytes };
    }

pub memory-same : (r q p : Run) → SameMemory r q → SameMemory q p → SameMemory r p
memory-same r q p a b =
    record {
      frames = record {
        callers = slice-same r.frames.callers.items q.frames.callers.items p.frames.callers.items a.frames.callers b.frames.callers;
        registers = slice-same r.frames.registers q.frames.registers p.frames.registers a.frames.registers b.frames.registers;
      };
      space = record {
        strings = slice-same r.spent.strings.bytes q.spent.strings.bytes p.spent.strings.bytes a.space.strings b.space.strings;
        output = slice-same r.spent.output.bytes q.spent.output.bytes p.spent.output.bytes a.space.output b.space.output;
      };
    }

pub roomy-same : (r q : Run) → Roomy r → SameMemory r q → Roomy q
roomy-same r q h s =
    record {
      sized = record { callers = omega (arith, h.sized.callers, s.frames.callers.long); registers = omega (arith, h.sized.registers, s.frames.registers.long) };
      strings = omega (arith, h.strings, s.space.strings.long);
    }
