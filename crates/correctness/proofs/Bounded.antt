-- What compiled code takes, and what reading promises of names. Assumes nothing.
use Rattle.std.proofs.Common.{arith}
use Rattle.std.proofs.lemmas.List.{length-append, length-map}
use Rattle.correctness.specs.Law.{CodeLaw, TextLaw}
use Rattle.correctness.proofs.Lookup.{all-methods-length}
use Rattle.correctness.proofs.Fitted.{fitted, all-methods-fitted}
use Rattle.correctness.proofs.CodeLength.{code-bounded}
use Rattle.correctness.proofs.GlobalsUsed as used
use Rattle.correctness.proofs.Spelling.{read-spelled}

pub code-law : {A : Type 0} → CodeLaw A
code-law P e w =
    record {
      instructions-few = code-bounded P w.classes-within w.rule-within;
      globals-below = used.globals-below P e;
      globals-few = used.globals-few P w.few.few-classes;
      functions-few = let few = w.few.few-methods in let all = all-methods-length P in simp (length-append, length-map) (omega arith);
      rule_fits = fitted w.rule-within w.rule-spelled;
      methods-fit = all-methods-fitted P w.classes-within w.classes-spelled;
    }

pub text-law : TextLaw
text-law = read-spelled
