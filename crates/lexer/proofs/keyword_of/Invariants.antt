use Rattle.std.proofs.Common.{◌≡◌, drop}
use Rattle.lexer.specs.Keyword.{keywords, keyword_of}
use Rattle.lexer.proofs.Keywords.{among}
use Rattle.lexer.proofs.keyword_of.Given as goal

-- it is among the keywords that are left, if it is one
abbrev pub invariant-loop-keyword : goal.invariant-loop-keyword
invariant-loop-keyword l = among (drop l.keyword-index keywords) l.bytes ≡ keyword_of l.bytes
