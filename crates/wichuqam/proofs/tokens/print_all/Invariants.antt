use Rattle.std.proofs.Common.{◌≡◌}
use Rattle.wichuqam.proofs.tokens.print_all.Given as goal

-- the tokens are those of this text
abbrev pub invariant-loop-lexed : goal.invariant-loop-lexed
invariant-loop-lexed l =
    record {
      can : (goal.iterator-loop-lexed).can_next l.lexed-iterator;
      ends : (goal.iterator-loop-lexed).is_finite l.lexed-iterator;
      whole : l.lexed-iterator.text.now ≡ l.text;
    }
