use Rattle.std.proofs.Common.{sym, ◌∙◌, arith}
use Rattle.std.proofs.lemmas.List.{get_or_past}
use Rattle.text.specs.Memory.{memory_of, bytes_of}
use Rattle.text.specs.Meanings.{length-bytes_of, get_or-bytes_of}
use Rattle.buckets.proofs.number.byte_of.Goals as goal

pub returns-then-i-string : goal.returns-then-i-string
returns-then-i-string c =
    (rw (c.from.ensures, c.from-then-i-string.ensures) at c.byte_at.ensures) ∙ sym (get_or-bytes_of (memory_of c.args.bytes) c.args.string c.args.i 0 (omega arith))

pub returns-else-i-string : goal.returns-else-i-string
returns-else-i-string c =
    let m = memory_of c.args.bytes in
    sym (get_or_past (bytes_of m c.args.string) c.args.i 0 (omega (arith, length-bytes_of m c.args.string)))
