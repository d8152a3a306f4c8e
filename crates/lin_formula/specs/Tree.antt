-- Formulas as trees, without their addresses in memory.
use Rattle.std.specs.Prelude.{ℕ, ◌<◌, List, [], ◌∷◌, ◌++◌, length, ℤ}
use Rattle.track_word.specs.declared.tracks.Var.{Var}
use Rattle.track_word.specs.declared.atoms.Rel.{Rel}
use Rattle.track_word.specs.Tracks.{with_var, with_vars, without_var}
use Rattle.track_word.specs.Atom.{IsAtom, atom_tracks}

-- a linear comparison, a value of a variable, membership in the set with a number, and combinations of these
pub data Tree : Type 0 where
  Lin : List (ℤ × Var) → Rel → ℤ → Tree
  Value : Var → ℤ → Tree
  Among : ℕ → List Var → Tree
  Not : Tree → Tree
  And : Tree → Tree → Tree
  Or : Tree → Tree → Tree
  Ex : Var → Tree → Tree

-- the free variables in ascending order
abbrev pub free_vars : Tree → List Var
free_vars (Lin terms rel bound) = atom_tracks terms
free_vars (Value x n) = x ∷ []
free_vars (Among set vars) = with_vars vars []
free_vars (Not f) = free_vars f
free_vars (And f g) = with_vars (free_vars f) (free_vars g)
free_vars (Or f g) = with_vars (free_vars f) (free_vars g)
free_vars (Ex x f) = without_var x (free_vars f)

-- the free and bound variables in ascending order
abbrev pub vars_of : Tree → List Var
vars_of (Lin terms rel bound) = atom_tracks terms
vars_of (Value x n) = x ∷ []
vars_of (Among set vars) = with_vars vars []
vars_of (Not f) = vars_of f
vars_of (And f g) = with_vars (vars_of f) (vars_of g)
vars_of (Or f g) = with_vars (vars_of f) (vars_of g)
vars_of (Ex x f) = with_var x (vars_of f)

-- the subformulas that are steps (conjunction, disjunction, quantifier), in post-order
abbrev pub steps : Tree → List Tree
steps (Lin terms rel bound) = []
steps (Value x n) = []
steps (Among set vars) = []
steps (Not f) = steps f
steps (And f g) = steps f ++ steps g ++ And f g ∷ []
steps (Or f g) = steps f ++ steps g ++ Or f g ∷ []
steps (Ex x f) = steps f ++ Ex x f ∷ []

abbrev pub HasStep : Tree → Type 0
HasStep f = 0 < length (steps f)

-- the named sets, each with the variables whose values are to be in it
abbrev pub memberships : Tree → List (ℕ × List Var)
memberships (Lin terms rel bound) = []
memberships (Value x n) = []
memberships (Among set vars) = (set, vars) ∷ []
memberships (Not f) = memberships f
memberships (And f g) = memberships f ++ memberships g
memberships (Or f g) = memberships f ++ memberships g
memberships (Ex x f) = memberships f

-- the numbers of the named sets
abbrev pub symbols : Tree → List ℕ
symbols (Lin terms rel bound) = []
symbols (Value x n) = []
symbols (Among set vars) = set ∷ []
symbols (Not f) = symbols f
symbols (And f g) = symbols f ++ symbols g
symbols (Or f g) = symbols f ++ symbols g
symbols (Ex x f) = symbols f

-- each linear comparison has one to eight terms with different variables, coefficients from -64 to 64 but 0, and a bound from -1000
-- to 1000
abbrev pub IsWellMade : Tree → Type 0
IsWellMade (Lin terms rel bound) = IsAtom terms bound
IsWellMade (Value x n) = Unit {0}
IsWellMade (Among set vars) = Unit {0}
IsWellMade (Not f) = IsWellMade f
IsWellMade (And f g) = IsWellMade f × IsWellMade g
IsWellMade (Or f g) = IsWellMade f × IsWellMade g
IsWellMade (Ex x f) = IsWellMade f

-- a formula is well made if two others are
abbrev pub IsWellMadeFrom : Tree → Tree → Tree → Type 0
IsWellMadeFrom f g made = IsWellMade f → IsWellMade g → IsWellMade made
