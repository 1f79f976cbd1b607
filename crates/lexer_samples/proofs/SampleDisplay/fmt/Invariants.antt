use Rattle.std.proofs.Common.{◌≡◌}
use Rattle.lexer_samples.proofs.SampleDisplay.fmt.Given as goal

-- the tokens are those of this text
abbrev pub invariant-loop-lexed : goal.invariant-loop-lexed
invariant-loop-lexed g l =
    record {
      can : (goal.iterator-loop-lexed g).can_next l.lexed-iterator;
      ends : (goal.iterator-loop-lexed g).is_finite l.lexed-iterator;
      whole : l.lexed-iterator.text.now ≡ l.text;
    }
