use denote.Ref.{Bor}
use Rattle.std.proofs.Common.{◌≡◌, ℕ, Some, None, Option, length, sym, refl, ◌∙◌}
use Rattle.std.specs.Option.{option_copied}
use Rattle.std.specs.List.{slice_get}
use Rattle.std.specs.Slice.{IsItemAt}
use Rattle.std.proofs.lemmas.Option.{slice_get_past, slice_get_read}
use Rattle.rube.specs.declared.builtin.Builtin.{Builtin}
use Rattle.rube.specs.Builtin.{table}
use Rattle.rube.proofs.builtin.builtin_at.Goals as goal

-- a copy of the row that is there, if one is
copied : (i : ℕ) (r : Option (Bor Builtin)) → IsItemAt table i r → option_copied r ≡ slice_get table i
copied i None h = sym (slice_get_past table i h.3)
copied i (Some x) h = sym (slice_get_read table (length table) i x.now refl h.3.0 h.1)

pub returns : goal.returns
returns c = record { the_table = c.copied.ensures ∙ copied c.args.i c.get.result c.get.ensures.lookup }
