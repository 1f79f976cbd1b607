-- The worked examples, by computing them.
use Rattle.std.proofs.Common.{refl}
use Rattle.grammar.specs.Machine.{run}
use Rattle.grammar.specs.Samples.{Samples}

pub samples : Samples
unfolding run
samples = record {
  self-is-no-target = refl;
  calls-have-parentheses = refl;
  no-other-parentheses = refl;
  no-last-semicolon = refl;
  no-last-comma = refl;
  no-call-behind-a-test = refl;
  writes-stand-outside-tests = refl;
  sequences-group-to-the-right = refl;
  new-is-a-base = refl;
  classes-end-with-end = refl;
  classes-are-no-rules = refl;
  bodies-are-not-empty = refl;
  depth-of-new = refl;
  depth-of-a-call = refl;
  depth-of-a-sequence = refl;
  nodes-of-a-sequence = refl;
  zeros-lead = refl;
  minus-zero = refl;
  largest = refl;
  smallest = refl;
  equal-names-count-once = refl;
}
