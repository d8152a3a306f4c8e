-- A map whose values are all below a bound.
use Rattle.std.proofs.Common.{ℕ, ◌<◌, List}
use Rattle.std.specs.List.{All}
use Rattle.std.proofs.lemmas.List.Elements.{All-contains}
use Rattle.letter_diagram.specs.declared.diagrams.Shape.{Shape}
use Rattle.letter_diagram.specs.Diagram.{map_at}
use Rattle.letter_diagram.specs.Leaves.{AreLeaves}

pub leaves_below : {shapes : List Shape} {node : ℕ} {values : List ℕ} (bound : ℕ) → AreLeaves shapes node values
    → All (λ v. v < bound) values → (letter : ℕ) → map_at shapes node letter < bound
leaves_below {shapes} {node} {values} bound leaves below letter = All-contains (λ v. v < bound) values (map_at shapes node letter) below (leaves.all letter)
