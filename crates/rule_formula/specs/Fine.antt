-- Formulas that are true together, and formulas built of small atoms over few variables.
use Rattle.std.specs.Prelude.{ℕ, ◌<◌, List, [], ◌∷◌}
use Rattle.track_word.specs.declared.tracks.Var.{Var}
use Rattle.track_word.specs.Tracks.{Values}
use Rattle.track_word.specs.Atom.{IsAtom, term_vars}
use Rattle.lin_formula.specs.Tree.{Tree}
use Rattle.lin_formula.specs.Tree as tree
use Rattle.lin_formula.specs.Holds.{Holds, Sets}

-- each formula of the list is true
abbrev pub AllHold : List Tree → Sets → Values → Type 0
AllHold [] e v = Unit {0}
AllHold (f ∷ fs) e v = Holds f e v × AllHold fs e v

-- each variable of the list has the property
abbrev pub AreVars : (Var → Type 0) → List Var → Type 0
AreVars V [] = Unit {0}
AreVars V (x ∷ xs) = V x × AreVars V xs

-- its comparisons are small, and its variables and its memberships have these properties
abbrev pub IsFine : (Var → Type 0) → (ℕ × List Var → Type 0) → Tree → Type 0
IsFine V P (tree.Lin terms rel bound) = IsAtom terms bound × AreVars V (term_vars terms)
IsFine V P (tree.Value x n) = V x
IsFine V P (tree.Among s vars) = P (s, vars) × AreVars V vars
IsFine V P (tree.Not f) = IsFine V P f
IsFine V P (tree.And f g) = IsFine V P f × IsFine V P g
IsFine V P (tree.Or f g) = IsFine V P f × IsFine V P g
IsFine V P (tree.Ex x f) = V x × IsFine V P f

-- a variable below eighteen
abbrev pub IsLow : Var → Type 0
IsLow x = x.0 < 18
