-- The value of a merger in contracts.
use Rattle.std.specs.Prelude.{ℕ, List, length}
use Rattle.letter_diagram.specs.declared.diagrams.Shape.{Shape}
use Rattle.letter_diagram.specs.Merged.{AreMerged}

-- the nodes of a merger, the numbered sets, and the track
pub record MergerTables : Type 0 where
  pub shapes : List Shape
  pub sets : List (List ℕ)
  pub track : ℕ

-- each set after those of the merger is the union of the sets that a gives at two letters that differ in the track only
abbrev pub AddsMerged : MergerTables → List (List ℕ) → ℕ → Type 0
AddsMerged merger sets a = AreMerged merger.shapes (length merger.sets) sets merger.track a
