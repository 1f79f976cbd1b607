use Rattle.std.proofs.Common.{◌≡◌, ℕ, ◌+◌, ◌<◌, get_or}
use Rattle.text.specs.Memory.{memory_of, byte_of}
use Rattle.effects.proofs.copying.copy_string.Given as goal

-- the first i bytes are the string's
abbrev pub invariant-loop-i : goal.invariant-loop-i
invariant-loop-i l = (k : ℕ) → k < l.i → get_or l.to k 0 ≡ byte_of (memory_of l.bytes) l.string.space (l.string.start + k)
