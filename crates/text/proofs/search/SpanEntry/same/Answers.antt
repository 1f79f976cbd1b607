use Rattle.std.proofs.Common.{rules}
use Rattle.std.proofs.lemmas.Bool.Decides.{same_from_decides}
use Rattle.text.specs.Meanings.{decides-bytes}
use Rattle.text.proofs.search.SpanEntry.same.Goals as goal

pub returns : goal.returns
returns c = search (rules, same_from_decides, decides-bytes)
