-- The variables that are free in a formula.
use Rattle.std.specs.Prelude.{◌≡◌, ◌≢◌, ◌↔◌, ◌⊎◌, ℕ, List, [], ◌∷◌}
use Rattle.track_word.specs.declared.tracks.Var.{Var}
use Rattle.track_word.specs.Tracks.{Values, IsAscending}
use Rattle.track_word.specs.Atom.{term_vars}
use Rattle.lin_formula.specs.Tree.{Tree, Lin, Value, Among, Not, And, Or, Ex, free_vars}
use Rattle.lin_formula.specs.Holds.{Holds}
use Rattle.lin_formula.specs.SetOf.{SetOf, members}

abbrev pub IsOneOf : Var → List Var → Type 0
IsOneOf x [] = ⊥
IsOneOf x (y ∷ ys) = (x ≡ y) ⊎ IsOneOf x ys

-- the variable occurs in the formula outside of each quantifier that binds it
abbrev pub IsFree : Var → Tree → Type 0
IsFree x (Lin terms rel bound) = IsOneOf x (term_vars terms)
IsFree x (Value y n) = x ≡ y
IsFree x (Among set vars) = IsOneOf x vars
IsFree x (Not f) = IsFree x f
IsFree x (And f g) = IsFree x f ⊎ IsFree x g
IsFree x (Or f g) = IsFree x f ⊎ IsFree x g
IsFree x (Ex y f) = (x ≢ y) × IsFree x f

abbrev pub FreeVarsAreFree : Type 0
FreeVarsAreFree = (f : Tree) (x : Var) → IsOneOf x (free_vars f) ↔ IsFree x f

abbrev pub FreeVarsAscend : Type 0
FreeVarsAscend = (f : Tree) → IsAscending (free_vars f)

abbrev pub MeaningRestsOnFreeVars : Type 0
MeaningRestsOnFreeVars =
    (f : Tree) (e : ℕ → SetOf) (v w : Values) → ((x : Var) → IsFree x f → v x.0 ≡ w x.0) → Holds f (members e) v
    → Holds f (members e) w
