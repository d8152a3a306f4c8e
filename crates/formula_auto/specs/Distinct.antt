-- Lists without repeats.
use Rattle.std.specs.Prelude.{List, [], ◌∷◌}
use Rattle.track_word.specs.declared.tracks.Var.{Var}
use Rattle.lin_formula.specs.Free.{IsOneOf}

-- no variable occurs twice
abbrev pub Apart : List Var → Type 0
Apart [] = Unit {0}
Apart (y ∷ ys) = (IsOneOf y ys → ⊥) × Apart ys
