-- The samples, by computing them. Assumes nothing.
use Rattle.std.proofs.Common.{refl}
use Rattle.std.specs.Int.{int_wrap}
use Rattle.std.specs.Fmt.{digits}
use Rattle.text.specs.Memory.{equal_bytes}
use Rattle.lexer.specs.Keyword.{keyword_of}
use Rattle.lexer.specs.Tokens.{scan}
use Rattle.grammar.specs.Machine.{run}
use Rattle.store.specs.Val.{equal_val}
use Rattle.store.specs.Tables.{look, put}
use Rattle.machine.specs.Arith.{arith}
use Rattle.machine.specs.Effects.{charge, print}
use Rattle.rube.specs.Classes.{visible}
use Rattle.rube.specs.Heap.{heap_pairs, fits}
use Rattle.rube.specs.Methods.{perform}
use Rattle.rube.specs.Meaning.{eval, evals, eval_at, meaning}
use Rattle.rube.specs.Samples.{SamplesHold}

pub samples-hold : SamplesHold
unfolding int_wrap digits equal_bytes keyword_of scan run equal_val look put arith charge print visible heap_pairs fits perform eval evals eval_at meaning
samples-hold =
    record {
      endings = (refl, (refl, (refl, (refl, (refl, (refl, (refl, (refl, (refl, (refl, (refl, (refl, tt))))))))))));
      sum = refl;
      object = refl;
    }
