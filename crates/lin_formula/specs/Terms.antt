-- The terms of a linear comparison.
use Rattle.std.specs.Prelude.{List, ℤ, All}
use Rattle.track_word.specs.declared.tracks.Var.{Var}
use Rattle.track_word.specs.Atom.{IsCount, IsCoefficient}

abbrev pub IsTerms : List (ℤ × Var) → Type 0
IsTerms terms = IsCount terms × All IsCoefficient terms
