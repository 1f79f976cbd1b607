-- The words that are no identifiers. Assumes nothing.
use Rattle.std.specs.Prelude.{ℕ, List, [], ◌∷◌, codes, Option, find}
use Rattle.std.specs.Str.{bytes_eq}
use Rattle.lexer.specs.declared.token.Keyword.{Keyword}
use Rattle.lexer.specs.declared.token.Keyword.TheVariants.{Class, Begin, End, Def, If, Then, Else, While, Do, New, InstanceOf, SelfWord, Nil}

abbrev pub word : Keyword → List ℕ
word Class = codes "class"
word Begin = codes "begin"
word End = codes "end"
word Def = codes "def"
word If = codes "if"
word Then = codes "then"
word Else = codes "else"
word While = codes "while"
word Do = codes "do"
word New = codes "new"
word InstanceOf = codes "instanceof"
word SelfWord = codes "self"
word Nil = codes "nil"

abbrev pub keywords : List Keyword
keywords =
    Class ∷ Begin ∷ End ∷ Def ∷ If ∷ Then ∷ Else ∷ While ∷ Do ∷ New ∷ InstanceOf ∷ SelfWord ∷ Nil ∷ []

-- the first of the keywords that is written so
unfoldable pub keyword_of : List ℕ → Option Keyword
keyword_of w = find (λ k. bytes_eq w (word k)) keywords
