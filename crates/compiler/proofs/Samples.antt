-- The samples on the machine, by computing them. Assumes nothing.
use Rattle.std.proofs.Common.{refl}
use Rattle.std.specs.Int.{int_wrap}
use Rattle.std.specs.Fmt.{digits}
use Rattle.text.specs.Memory.{equal_bytes}
use Rattle.lexer.specs.Keyword.{keyword_of}
use Rattle.lexer.specs.Tokens.{scan}
use Rattle.grammar.specs.Machine.{run}
use Rattle.store.specs.Val.{equal_val}
use Rattle.store.specs.Tables.{look, put}
use Rattle.machine.specs.Arith.{arith}
use Rattle.machine.specs.Effects.{charge, print}
use Rattle.rube.specs.Classes.{visible}
use Rattle.rube.specs.Heap.{heap_pairs, fits}
use Rattle.rube.specs.Methods.{perform}
use Rattle.rube.specs.Meaning.{eval, evals, eval_at, meaning}
use Rattle.machine.specs.Instr.{fetch}
use Rattle.machine.specs.State.{write, passed}
use Rattle.machine.specs.Operands.{values_from}
use Rattle.machine.specs.Builtin.{apply}
use Rattle.machine.specs.Step.{exec, step}
use Rattle.machine.specs.Run as machine
use Rattle.store.specs.Tables.{pairs}
use Rattle.compiler.specs.Pieces.{send}
use Rattle.compiler.specs.Body.{compile, compiles, method_code}
use Rattle.compiler.specs.Builtins.{operation_code}
use Rattle.compiler.specs.Whole.{main_code}
use Rattle.compiler.specs.Samples.{RunsHold, MeaningsHold, MoreRunsHold}

pub runs-hold : RunsHold
unfolding int_wrap digits equal_bytes keyword_of scan run equal_val look put arith charge print visible heap_pairs fits perform eval evals eval_at meaning fetch write passed values_from apply exec step machine.run pairs send compile compiles method_code operation_code main_code
runs-hold = (refl, (refl, (refl, (refl, (refl, (refl, (refl, (refl, (refl, (refl, (refl, (refl, tt))))))))))))

pub meanings-hold : MeaningsHold
unfolding int_wrap digits equal_bytes keyword_of scan run equal_val look put arith charge print visible heap_pairs fits perform eval evals eval_at meaning fetch write passed values_from apply exec step machine.run pairs send compile compiles method_code operation_code main_code
meanings-hold = (refl, (refl, (refl, (refl, (refl, (refl, (refl, (refl, (refl, (refl, (refl, (refl, (refl, (refl, (refl, (refl, (refl, (refl, (refl, (refl, (refl, (refl, (refl, (refl, (refl, (refl, (refl, (refl, (refl, (refl, (refl, (refl, (refl, (refl, (refl, (refl, tt))))))))))))))))))))))))))))))))))))

pub more-runs-hold : MoreRunsHold
unfolding int_wrap digits equal_bytes keyword_of scan run equal_val look put arith charge print visible heap_pairs fits perform eval evals eval_at meaning fetch write passed values_from apply exec step machine.run pairs send compile compiles method_code operation_code main_code
more-runs-hold = (refl, (refl, (refl, (refl, (refl, (refl, (refl, (refl, (refl, (refl, (refl, (refl, (refl, (refl, (refl, (refl, (refl, (refl, (refl, (refl, (refl, (refl, (refl, (refl, (refl, (refl, (refl, (refl, (refl, (refl, (refl, (refl, (refl, (refl, (refl, (refl, tt))))))))))))))))))))))))))))))))))))
