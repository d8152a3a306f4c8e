-- Equivalent formulas.
use Rattle.std.specs.Prelude.{◌≡◌, ◌↔◌, ℕ}
use Rattle.track_word.specs.Tracks.{Values}
use Rattle.lin_formula.specs.Tree.{Tree, free_vars}
use Rattle.lin_formula.specs.Holds.{Holds}
use Rattle.lin_formula.specs.SetOf.{SetOf, members}

-- with the same free variables, and equivalent for any sets
pub record SaysTheSame (f g : Tree) : Type 0 where
  pub vars : free_vars f ≡ free_vars g
  pub holds : (e : ℕ → SetOf) (v : Values) → Holds f (members e) v ↔ Holds g (members e) v
