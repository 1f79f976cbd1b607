-- What is printed of a form. Assumes nothing.
use Rattle.std.specs.Prelude.{ℕ, List, [], ◌∷◌, take, Some, None, Option, codes}
use Rattle.text.specs.declared.span.Span.{Span}
use Rattle.nodes.specs.declared.node.Form.{Form}
use Rattle.nodes.specs.declared.node.Form.TheVariants.{Int, Nil, SelfWord, Str, Local, SetLocal, Field, SetField, If, While, Seq, New, InstanceOf, Invoke}

-- what it is called
abbrev pub kind_of : Form → List ℕ
kind_of (Int n) = codes "integer"
kind_of Nil = codes "nil"
kind_of SelfWord = codes "self"
kind_of (Str s) = codes "string"
kind_of (Local s) = codes "local"
kind_of (SetLocal s a) = codes "write local"
kind_of (Field s) = codes "field"
kind_of (SetField s a) = codes "write field"
kind_of (If a b c) = codes "if"
kind_of (While a b) = codes "while"
kind_of (Seq a b) = codes "sequence"
kind_of (New s r) = codes "new"
kind_of (InstanceOf a s) = codes "instanceof"
kind_of (Invoke a s r) = codes "call"

-- its name, or the bytes of a string
abbrev pub word_of : Form → Option Span
word_of (Int n) = None
word_of Nil = None
word_of SelfWord = None
word_of (Str s) = Some s
word_of (Local s) = Some s
word_of (SetLocal s a) = Some s
word_of (Field s) = Some s
word_of (SetField s a) = Some s
word_of (If a b c) = None
word_of (While a b) = None
word_of (Seq a b) = None
word_of (New s r) = Some s
word_of (InstanceOf a s) = Some s
word_of (Invoke a s r) = Some s

-- where its parts stand, in the order of the text
abbrev pub parts_of : Form → List ℕ
parts_of (Int n) = []
parts_of Nil = []
parts_of SelfWord = []
parts_of (Str s) = []
parts_of (Local s) = []
parts_of (SetLocal s a) = a ∷ []
parts_of (Field s) = []
parts_of (SetField s a) = a ∷ []
parts_of (If a b c) = a ∷ b ∷ c ∷ []
parts_of (While a b) = a ∷ b ∷ []
parts_of (Seq a b) = a ∷ b ∷ []
parts_of (New s r) = take r.count r.roots
parts_of (InstanceOf a s) = a ∷ []
parts_of (Invoke a s r) = a ∷ take r.count r.roots
