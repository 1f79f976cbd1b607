use Rattle.grammar.proofs.Notes.{notes-law}
use Rattle.grammar.proofs.notes_stand.Goals as goal

pub returns : goal.returns
returns c = notes-law
