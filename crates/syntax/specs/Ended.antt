-- What the parser's functions promise of a whole text. Assumes nothing.
use Rattle.std.specs.Prelude.{◌≡◌, ℕ, List, length}
use Rattle.grammar.specs.Grammar.{Kind}
use Rattle.grammar.specs.Machine.{Outcome, parse}
use Rattle.grammar.specs.Notes.{first}
use Rattle.syntax.specs.Left.{terms, places}
use Rattle.syntax.specs.Parsing.{Ahead}

-- the machine of that kind stops at the token that stands at the place e
pub record TextStuck (κ : Kind) (text : List ℕ) (e : ℕ) : Type 0 where
  pub from : ℕ
  pub ahead : Ahead text 0 from
  pub place : e ≡ first (length text) (places text from)
  pub way : parse κ (terms text 0) ≡ Outcome.refused (terms text from)
