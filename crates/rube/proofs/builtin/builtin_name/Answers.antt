use Rattle.std.proofs.Common.{◌≡◌, ℕ, [], get_or, Some, sym, ap, ◌∙◌}
use Rattle.std.specs.Option.{option_map}
use Rattle.std.specs.List.{slice_get}
use Rattle.std.proofs.lemmas.Option.{slice_get-map, get_or_from_slice_get}
use Rattle.rube.specs.declared.builtin.Builtin.{Builtin}
use Rattle.rube.specs.Builtin.{name_of, table, names}
use Rattle.rube.proofs.builtin.builtin_name.Goals as goal

-- the name that stands in a row
named : (i : ℕ) (r : Builtin) → slice_get table i ≡ Some r → name_of r.operation ≡ get_or names i []
named i r e =
    sym (get_or_from_slice_get names i (name_of r.operation) [] (slice_get-map (λ (b : Builtin). name_of b.operation) table i ∙ ap (option_map (λ (b : Builtin). name_of b.operation)) e))

pub returns-in-Some : goal.returns-in-Some
returns-in-Some c = record { the_table = c.name.ensures.its_letters ∙ named c.args.i c.in-Some.row (sym c.in-Some.ensures.the_table) }
