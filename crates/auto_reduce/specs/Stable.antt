-- States that stay the same when the first letter is repeated.
use Rattle.std.specs.Prelude.{◌≡◌, ℕ, List}
use Rattle.letter_diagram.specs.declared.diagrams.Shape.{Shape}
use Rattle.letter_diagram.specs.Diagram.{map_at}

-- a row gives a state at each letter at which the first row does
abbrev pub Keeps : List Shape → ℕ → ℕ → ℕ → Type 0
Keeps shapes first row state = (letter : ℕ) → map_at shapes first letter ≡ state → map_at shapes row letter ≡ state
