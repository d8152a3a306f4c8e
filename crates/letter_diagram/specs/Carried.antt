-- Nodes that are other nodes rebuilt.
use Rattle.std.specs.Prelude.{◌≡◌, ℕ, ◌<◌, ◌≤◌, ◌⊎◌, List, Option, length, Some, None, nat_eq, if◌then◌else◌}
use Rattle.std.specs.Int.{bit_at}
use Rattle.limits.specs.declared.numbers.TheConstants.{MOST_TRACKS}
use Rattle.letter_diagram.specs.declared.diagrams.Shape.{Shape}
use Rattle.letter_diagram.specs.Diagram.{map_at, top_track, LooksBelow}
use Rattle.letter_diagram.specs.Listed.{EachAnswers}

-- no letter changes
abbrev pub KeepsLetters : (ℕ → ℕ) → Type 0
KeepsLetters letters = (letter : ℕ) → letters letter ≡ letter

-- at each letter r has the rebuilt value of a at the mapped letter; if letters do not change, r tests no track before those of a
pub record IsCarried (from shapes : List Shape) (letters values : ℕ → ℕ) (a r : ℕ) : Type 0 where
  pub known : r < length shapes
  pub source_known : a < length from
  pub map : (letter : ℕ) → map_at shapes r letter ≡ values (map_at from a (letters letter))
  pub top : KeepsLetters letters → top_track from a ≤ top_track shapes r

-- each node of a list is rebuilt as the one at the same index, with its values unchanged
abbrev pub AreCarried : List Shape → List Shape → (ℕ → ℕ) → List ℕ → List ℕ → Type 0
AreCarried from shapes letters nodes made = EachAnswers (IsCarried from shapes letters (λ value. value)) nodes made

-- the nodes that are rebuilt, or none if they are those to which nodes are added; the letter at which an old map is read; what a
-- value becomes; and a bound of the tracks that old maps test
pub record Carrier : Type 0 where
  pub from : Option (List Shape)
  pub letters : ℕ → ℕ
  pub values : ℕ → ℕ
  pub tracks : ℕ

abbrev pub shapes_or : Option (List Shape) → List Shape → List Shape
shapes_or (Some from) shapes = from
shapes_or None shapes = shapes

-- the nodes that are rebuilt
abbrev pub source_of : Carrier → List Shape → List Shape
source_of c shapes = shapes_or c.from shapes

-- r is a rebuilt
abbrev pub Carries : Carrier → List Shape → ℕ → ℕ → Type 0
Carries c shapes a r = IsCarried (source_of c shapes) shapes c.letters c.values a r

-- a node whose values can be mapped, and that tests only tracks below the bound (no map tests a track from the twenty-first on)
pub record CanBeCarried (c : Carrier) (Can : ℕ → Type 0) (shapes : List Shape) (a : ℕ) : Type 0 where
  pub known : a < length (source_of c shapes)
  pub narrow : c.tracks < MOST_TRACKS → LooksBelow (source_of c shapes) a c.tracks
  pub values : (letter : ℕ) → Can (map_at (source_of c shapes) a letter)

-- the results in a cache are the rebuilt nodes
pub record RemembersCarried (c : Carrier) (shapes : List Shape) (answers : ℕ → Option ℕ) : Type 0 where
  pub rebuilt : (a r : ℕ) → answers a ≡ Some r → Carries c shapes a r

-- at most one result is new
pub record Learns (old new : ℕ → Option ℕ) (node made : ℕ) : Type 0 where
  pub only : (a r : ℕ) → new a ≡ Some r → (old a ≡ Some r) ⊎ ((a ≡ node) × (r ≡ made))

-- a branch of a test, which depends only on later tracks if letters do not change
pub record IsSide (c : Carrier) (shapes : List Shape) (track side : ℕ) : Type 0 where
  pub known : side < length shapes
  pub above : KeepsLetters c.letters → track < top_track shapes side

-- the value of one of two maps at a letter, selected by the bit of a track of the mapped letter
abbrev pub side_at : Carrier → List Shape → ℕ → ℕ → ℕ → ℕ → ℕ
side_at c shapes track low high letter =
    if nat_eq (bit_at (c.letters letter) track) 0 then map_at shapes low letter else map_at shapes high letter
