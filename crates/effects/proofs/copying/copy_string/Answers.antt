use Rattle.std.proofs.Common.{sym, ◌∙◌, arith}
use Rattle.std.proofs.lemmas.List.{same_lists, get_or_default}
use Rattle.text.specs.Memory.{memory_of}
use Rattle.text.specs.Meanings.{length-bytes_of, get_or-bytes_of}
use Rattle.effects.proofs.copying.copy_string.Goals as goal

pub returns : goal.returns
returns c =
    let m = memory_of c.args.bytes in
    let s = c.args.string in
    let n = length-bytes_of m s in
    record {
      copied = same_lists _ _ (omega (arith, c.requires.fits))
          (λ k d h. get_or_default _ k d 0 h ∙ c.loop-i.invariant k (omega (arith, c.requires.fits)) ∙ sym (get_or-bytes_of m s k d (omega (arith, c.requires.fits))));
    }
