-- How many steps and how much code a rule may take. Assumes nothing.
use Rattle.std.specs.Prelude.{ℕ, ◌+◌, ◌*◌, [], ◌∷◌}
use Rattle.grammar.specs.Tree.{Expr}
use Rattle.grammar.specs.Measure.{nodes, method_nodes}
use Rattle.rube.specs.Classes.{Classes, added_methods, class_count, pair_count}

module _ {A : Type 0} where
  -- s: what a run may take before its rule begins
  abbrev pub start_steps : Classes A → ℕ
  start_steps P = 128 * (class_count P + pair_count P + 1)

  -- 128 steps for each counted rule
  abbrev pub step_bound : Classes A → ℕ → ℕ
  step_bound P n = 128 * n + start_steps P

  abbrev pub class_nodes : Classes A → ℕ
  class_nodes [] = 0
  class_nodes (K ∷ P) = method_nodes K.methods + class_nodes P

  -- how many instructions the code table must have room for
  abbrev pub code_bound : Classes A → Expr A → ℕ
  code_bound P e = 40 * (class_nodes P + nodes e) + 8 * (class_count P + pair_count P) + 32 * added_methods P + 1024
