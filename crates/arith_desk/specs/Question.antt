-- Formulas that can be decided.
use Rattle.std.specs.Prelude.{◌≡◌, ◌<◌, ◌≤◌, [], length}
use Rattle.std.specs.List.{All}
use Rattle.lin_formula.specs.Tree.{Tree, IsWellMade, free_vars, memberships, steps, vars_of}

-- closed, well made, without named sets, with the first sixteen variables only, and with few steps
pub record IsQuestion (f : Tree) : Type 0 where
  pub closed : free_vars f ≡ []
  pub well_made : IsWellMade f
  pub no_sets : memberships f ≡ []
  pub letters : All (λ x. x.0 < 16) (vars_of f)
  pub few_steps : length (steps f) ≤ 200
