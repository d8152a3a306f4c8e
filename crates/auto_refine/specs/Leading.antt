-- Nodes with the maps of other nodes, whose values are replaced by table entries.
use Rattle.std.specs.Prelude.{ℕ, List, Some, slice_index}
use Rattle.limits.specs.declared.numbers.TheConstants.{MOST_TRACKS}
use Rattle.letter_diagram.specs.declared.diagrams.Shape.{Shape}
use Rattle.letter_diagram.specs.Diagram.{map_at}
use Rattle.letter_diagram.specs.Carried.{Carrier, IsCarried}

-- the entry of a table at the value of a node's map
abbrev pub entry_at : List ℕ → List Shape → ℕ → ℕ → ℕ
entry_at table shapes node letter = slice_index table (map_at shapes node letter)

-- r gives the entry of the table at each value of a, a node of other shapes
abbrev pub IsLedFrom : List Shape → List Shape → List ℕ → ℕ → ℕ → Type 0
IsLedFrom from shapes table = IsCarried from shapes (λ letter. letter) (slice_index table)

-- nodes of other shapes are rebuilt with table entries as values
abbrev pub by_table : List Shape → List ℕ → Carrier
by_table from table = record {
  from = Some from;
  letters = λ letter. letter;
  values = slice_index table;
  tracks = MOST_TRACKS;
}
