-- Nodes that map letters to the places of the sets that the nodes of another list of shapes give.
use Rattle.std.specs.Prelude.{◌≡◌, ℕ, ◌<◌, ◌≤◌, List, length, Option, Some, slice_get}
use Rattle.letter_diagram.specs.declared.diagrams.Shape.{Shape}
use Rattle.letter_diagram.specs.Diagram.{map_at, top_track}
use Rattle.letter_diagram.specs.Merged.{HasSets}
use Rattle.letter_diagram.specs.Merger.{MergerTables}
use Rattle.letter_diagram.specs.NodeMemo.{answer_of}
use Rattle.auto_project.specs.SetMaps.{set_of}
use Rattle.auto_project.specs.declared.placing.SetNumbering.{SetNumbering}

-- the row maps each letter to the place of the set that the node gives
pub record IsPlaced (shapes : List Shape) (sets : List (List ℕ)) (rows : List Shape) (places : List (List ℕ))
    (node row : ℕ) : Type 0 where
  pub source : HasSets shapes sets node
  pub known : row < length rows
  pub leads : (letter : ℕ) → slice_get places (map_at rows row letter) ≡ Some (set_of shapes sets node letter)
  pub top : top_track shapes node ≤ top_track rows row

-- each new place is a set that the node gives
pub record AddsSetsOf (shapes : List Shape) (sets before places : List (List ℕ)) (node : ℕ) : Type 0 where
  pub led : (place : ℕ) → length before ≤ place → place < length places
      → (letter : ℕ) × (slice_get places place ≡ Some (set_of shapes sets node letter))

-- the results in a cache map to places
pub record RemembersPlaced (shapes : List Shape) (sets : List (List ℕ)) (rows : List Shape) (places : List (List ℕ))
    (memo : List (Option ℕ)) : Type 0 where
  pub placed : (node row : ℕ) → answer_of memo node ≡ Some row → IsPlaced shapes sets rows places node row

-- the row maps each letter to the place of the set that the merger's node gives
abbrev pub LeadsToPlaces : MergerTables → SetNumbering → ℕ → ℕ → Type 0
LeadsToPlaces merger places node row = IsPlaced merger.shapes merger.sets places.rows places.sets node row

-- the cached results for the merger's nodes map to places
abbrev pub RemembersRows : MergerTables → SetNumbering → Type 0
RemembersRows merger places = RemembersPlaced merger.shapes merger.sets places.rows places.sets places.placed

-- each new place is a set that the merger's node gives
abbrev pub AddsPlacesOf : MergerTables → SetNumbering → SetNumbering → ℕ → Type 0
AddsPlacesOf merger old new node = AddsSetsOf merger.shapes merger.sets old.sets new.sets node

-- the row maps each letter to the place of the set
abbrev pub LeadsToPlaceOf : SetNumbering → List ℕ → ℕ → Type 0
LeadsToPlaceOf places set row = (letter : ℕ) → slice_get places.sets (map_at places.rows row letter) ≡ Some set

-- no place but that of the set is new
abbrev pub AddsOnly : SetNumbering → SetNumbering → List ℕ → Type 0
AddsOnly old new set =
    (place : ℕ) → length old.sets ≤ place → place < length new.sets → slice_get new.sets place ≡ Some set
