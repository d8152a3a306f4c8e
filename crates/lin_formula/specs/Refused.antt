-- Why there is no linear comparison with these parts.
use Rattle.std.specs.Prelude.{List, ℤ, All}
use Rattle.track_word.specs.declared.tracks.Var.{Var}
use Rattle.track_word.specs.Atom.{IsCount, IsCoefficient, IsBound, IsAtom}
use Rattle.lin_formula.specs.declared.atoms.LinWhy.{LinWhy}
use Rattle.lin_formula.specs.declared.atoms.LinWhy.TheVariants.{Terms, Coefficient, Bound, Memory}

-- this is the first reason why there is no formula with these terms and this bound
abbrev pub IsWhy : LinWhy → List (ℤ × Var) → ℤ → Type 0
IsWhy Terms terms bound = ¬ IsCount terms
IsWhy Coefficient terms bound = IsCount terms × (¬ All IsCoefficient terms)
IsWhy Bound terms bound = IsCount terms × All IsCoefficient terms × (¬ IsBound bound)
IsWhy Memory terms bound = IsAtom terms bound
