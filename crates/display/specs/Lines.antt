-- A form on one line. Assumes nothing.
use Rattle.std.specs.Prelude.{ℕ, List, [], ◌++◌, Some, None, Option, flat_map, decimal}
use Rattle.std.specs.Fmt.{signed_decimal}
use Rattle.std.proofs.Math.Utf8.{encode}
use Rattle.nodes.specs.declared.node.Form.{Form}
use Rattle.nodes.specs.declared.node.Form.TheVariants.{Int, Nil, SelfWord, Str, Local, SetLocal, Field, SetField, If, While, Seq, New, InstanceOf, Invoke}
use Rattle.display.specs.declared.bytes.Shown.{Shown}
use Rattle.display.specs.Bytes.{shown}

-- the value of an integer
abbrev pub value_written : ℕ → Form → List ℕ
value_written c (Int v) = encode c ++ signed_decimal v
value_written c Nil = []
value_written c SelfWord = []
value_written c (Str s) = []
value_written c (Local s) = []
value_written c (SetLocal s a) = []
value_written c (Field s) = []
value_written c (SetField s a) = []
value_written c (If x y z) = []
value_written c (While x y) = []
value_written c (Seq x y) = []
value_written c (New s r) = []
value_written c (InstanceOf a s) = []
value_written c (Invoke a s r) = []

-- a word that was given
abbrev pub word_written : ℕ → Option Shown → List ℕ
word_written c None = []
word_written c (Some w) = encode c ++ flat_map (shown w.rule) w.bytes.now

abbrev pub part_written : ℕ → ℕ → List ℕ
part_written c n = encode c ++ decimal n
