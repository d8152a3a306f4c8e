-- The automaton over classes.
use Rattle.std.specs.Prelude.{◌≡◌, ℕ, ◌<◌, ◌≤◌, ◌^◌, Bool, false, IsTrue, List, length, slice_get, slice_index_or, Some, None}
use Rattle.letter_diagram.specs.declared.diagrams.Shape.{Shape}
use Rattle.letter_diagram.specs.Diagram.{map_at, LooksBelow}
use Rattle.auto_core.specs.Automaton.{Automaton}
use Rattle.auto_core.specs.Reduced.{AllReached}
use Rattle.auto_core.specs.Words.{AcceptsWhere}
use Rattle.auto_walk.specs.Walker.{Walker, place_of, IsReached, MoreThan}
use Rattle.auto_merge.specs.declared.merging.Merging.{Merging}
use Rattle.auto_merge.specs.Graph.{Graph}
use Rattle.auto_merge.specs.Keys.{HasClass, IsLedBy}
use Rattle.auto_merge.specs.Merging.{HasOwner}

-- a place whose class is a node's value at a letter
pub record GivesClass (places : List (List ℕ)) (table : List ℕ) (shapes : List Shape) (node letter : ℕ) : Type 0 where
  pub place : List ℕ
  pub class_is : HasClass places table place (map_at shapes node letter)

-- a node that maps each letter over the tracks to the class of a given place
pub record IsRowTo (w : Walker) (places : List (List ℕ)) (table : List ℕ) (shapes : List Shape) (lead : ℕ → List ℕ)
    (node : ℕ) : Type 0 where
  pub known : node < length shapes
  pub narrow : LooksBelow shapes node (length w.tracks)
  pub given : (letter : ℕ) → GivesClass places table shapes node letter
  pub leads : (letter : ℕ) → letter < 2 ^ length w.tracks → HasClass places table (lead letter) (map_at shapes node letter)

-- the row of the first place of a class
pub record IsClassRow (w : Walker) (places : List (List ℕ)) (table owners : List ℕ) (shapes : List Shape)
    (class node : ℕ) : Type 0 where
  pub owner : List ℕ
  pub has : HasOwner places owners class owner
  pub row : IsRowTo w places table shapes (w.next owner) node

-- the rows of the first classes
pub record AreClassRows (w : Walker) (places : List (List ℕ)) (table owners : List ℕ) (shapes : List Shape)
    (rows : List ℕ) : Type 0 where
  pub at : (class node : ℕ) → slice_get rows class ≡ Some node → IsClassRow w places table owners shapes class node

-- the accept flags of the classes' first places
pub record AreClassFlags (w : Walker) (places : List (List ℕ)) (owners : List ℕ) (flags : List Bool) : Type 0 where
  pub size : length flags ≡ length owners
  pub at : (class : ℕ) (owner : List ℕ) → HasOwner places owners class owner
      → slice_index_or flags class false ≡ w.final owner

-- the automaton accepts the words that reach accepting places; neither its states nor the places that words reach exceed the limit
pub record IsMerged {Spot : Type 0} (g : Graph Spot) (m : Automaton) : Type 0 where
  pub tracks : m.tracks ≡ g.walker.tracks
  pub words : AcceptsWhere g.walker.tracks (λ word. IsTrue (g.walker.final (place_of g.walker word))) m
  pub reached : ((place : List ℕ) → g.is_place place → IsReached g.walker place) → AllReached m
  pub few : length m.accept ≤ g.most
  pub within : ¬ MoreThan g.walker g.most

-- the node of a spot, each of whose places has a class
abbrev pub IsSettledIn : {R Spot Seen Memo : Type 0} → Graph Spot → (Seen → List (List ℕ))
    → Merging R Spot Seen Memo → Spot → ℕ → Type 0
IsSettledIn g places m spot node = IsLedBy g (places m.led.seen) m.table.items m.led.to None spot node

abbrev pub IsClassRowIn : {R Spot Seen Memo : Type 0} → Graph Spot → (Seen → List (List ℕ))
    → Merging R Spot Seen Memo → ℕ → ℕ → Type 0
IsClassRowIn g places m class node =
    IsClassRow g.walker (places m.led.seen) m.table.items m.owners.items m.led.to class node

abbrev pub AreClassFlagsIn : {R Spot Seen Memo : Type 0} → Graph Spot → (Seen → List (List ℕ))
    → Merging R Spot Seen Memo → List Bool → Type 0
AreClassFlagsIn g places m flags = AreClassFlags g.walker (places m.led.seen) m.owners.items flags

abbrev pub AreClassRowsIn : {R Spot Seen Memo : Type 0} → Graph Spot → (Seen → List (List ℕ))
    → Merging R Spot Seen Memo → List ℕ → Type 0
AreClassRowsIn g places m rows = AreClassRows g.walker (places m.led.seen) m.table.items m.owners.items m.led.to rows
