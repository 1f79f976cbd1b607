use Rattle.std.proofs.Common.{◌≡◌, ◌≤◌, length, drop}
use Rattle.lexer.specs.Tokens.{scan, tokens, judged}
use Rattle.lexer.proofs.check_text.Given as goal

-- what is left of the text gives the answer
abbrev pub invariant-loop-lexed : goal.invariant-loop-lexed
invariant-loop-lexed l =
    record {
      can : (goal.iterator-loop-lexed).can_next l.lexed-iterator;
      ends : (goal.iterator-loop-lexed).is_finite l.lexed-iterator;
      whole : l.lexed-iterator.text.now ≡ l.text;
      within : l.lexed-iterator.at ≤ length l.text;
      same : judged (scan l.lexed-iterator.at 0 (drop l.lexed-iterator.at l.text)) ≡ judged (tokens l.text);
    }
