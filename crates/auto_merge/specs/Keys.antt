-- Nodes that map letters to the classes of places, some of which have no class yet.
use Rattle.std.specs.Prelude.{◌≡◌, ◌≢◌, ◌<◌, ◌≤◌, ◌⊎◌, ◌&&◌, ℕ, true, false, List, Option, Some, None, length, slice_get, slice_index_or}
use Rattle.limits.specs.declared.numbers.TheConstants.{MOST_TRACKS}
use Rattle.letter_diagram.specs.declared.diagrams.Shape.{Shape}
use Rattle.letter_diagram.specs.Diagram.{map_at, top_track}
use Rattle.auto_walk.specs.declared.grown.Grown.{Grown}
use Rattle.auto_walk.specs.declared.grown.Grown.TheVariants as reasons
use Rattle.auto_walk.specs.Walker.{MoreThan}
use Rattle.auto_merge.specs.declared.keys.TheConstants.{NO_CLASS}
use Rattle.auto_merge.specs.declared.keys.NoKey.{NoKey}
use Rattle.auto_merge.specs.declared.keys.NoKey.TheVariants.{Unclassed, Over, Memory}
use Rattle.auto_merge.specs.declared.rows.Key.{Key}
use Rattle.auto_merge.specs.Graph.{Graph}

-- the class of a number; there is none after the end of the table
abbrev pub class_in : List ℕ → ℕ → ℕ
class_in table number = slice_index_or table number NO_CLASS

-- a place whose number has the class
pub record HasClass (places : List (List ℕ)) (table : List ℕ) (place : List ℕ) (class : ℕ) : Type 0 where
  pub number : ℕ
  pub is : slice_get places number ≡ Some place
  pub class_is : class_in table number ≡ class
  pub is_class : class ≢ NO_CLASS

-- the place with the number whose row it is, if there is one
abbrev pub IsOwn : List (List ℕ) → Option ℕ → List ℕ → Type 0
IsOwn places (Some number) place = slice_get places number ≡ Some place
IsOwn places None place = ⊥

-- the value of a place: its class, or NO_CLASS for the place whose row it is
abbrev pub IsValueOf : List (List ℕ) → List ℕ → Option ℕ → List ℕ → ℕ → Type 0
IsValueOf places table own place value = HasClass places table place value ⊎ (IsOwn places own place × (value ≡ NO_CLASS))

-- a node gives at each letter the value of the place to which a spot maps it, and tests no track before those of the spot
pub record IsLedBy {Spot : Type 0} (g : Graph Spot) (places : List (List ℕ)) (table : List ℕ) (shapes : List Shape) (own : Option ℕ)
    (spot : Spot) (node : ℕ) : Type 0 where
  pub known : node < length shapes
  pub values : (letter : ℕ) → IsValueOf places table own (g.leads spot letter) (map_at shapes node letter)
  pub top : g.top spot ≤ top_track shapes node

-- the cached keys of spots
pub record Remembers {Spot : Type 0} (g : Graph Spot) (places : List (List ℕ)) (table : List ℕ) (shapes : List Shape)
    (answers : Option ℕ → Spot → ℕ → Type 0) : Type 0 where
  pub led : (own : Option ℕ) (spot : Spot) (node : ℕ) → answers own spot node
      → IsLedBy g places table shapes own spot node

-- a number without a class
pub record IsUnclassed (places : List (List ℕ)) (table : List ℕ) (number : ℕ) : Type 0 where
  pub within : number < length places
  pub none : class_in table number ≡ NO_CLASS

-- why a spot has no key
abbrev pub IsNoKey : {Spot : Type 0} → Graph Spot → List (List ℕ) → List ℕ → NoKey → Type 0
IsNoKey g places table (Unclassed number) = IsUnclassed places table number
IsNoKey g places table Over = MoreThan g.walker g.most
IsNoKey g places table Memory = Unit {0}

-- the reason why no larger automaton was built, as a reason why a spot has no key
abbrev pub no_key_by : Grown → NoKey
no_key_by reasons.Over = Over
no_key_by reasons.Memory = Memory

-- the key of a spot that leads to the place with a number
pub record IsLeafKey (shapes : List Shape) (table : List ℕ) (number : ℕ) (own : Option ℕ) (key : Key) : Type 0 where
  pub known : key.node < length shapes
  pub map : (letter : ℕ) → map_at shapes key.node letter ≡ class_in table number
  pub top : top_track shapes key.node ≡ MOST_TRACKS
  pub given : key.whole ≡ true → class_in table number ≢ NO_CLASS
  pub unclassed : key.whole ≡ false → (own ≡ Some number) × (class_in table number ≡ NO_CLASS)

-- why it has no key
abbrev pub IsLeafRefused : List ℕ → ℕ → NoKey → Type 0
IsLeafRefused table number (Unclassed named) = (named ≡ number) × (class_in table number ≡ NO_CLASS)
IsLeafRefused table number Over = ⊥
IsLeafRefused table number Memory = Unit {0}

-- the key of a node that tests two keys
pub record IsTestKey (node : ℕ) (low high key : Key) : Type 0 where
  pub is : key.node ≡ node
  pub whole : key.whole ≡ (low.whole && high.whole)
