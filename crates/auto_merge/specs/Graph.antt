-- The source of rows: spots map letters to places, and some places are numbered.
use Rattle.std.specs.Prelude.{◌≡◌, ◌≢◌, ◌⊎◌, ℕ, ◌<◌, ◌≤◌, ◌^◌, Bool, true, false, List, length, All, AllPairs, Option, Some, None, slice_get, nat_eq, if◌then◌else◌}
use Rattle.std.specs.Int.{bit_at}
use Rattle.limits.specs.declared.numbers.TheConstants.{MOST_TRACKS}
use Rattle.auto_walk.specs.Walker.{Walker}
use Rattle.auto_merge.specs.declared.rows.Look.{Look}
use Rattle.auto_merge.specs.declared.rows.Look.TheVariants.{Place, Test}

-- the places and their limit; the spots that can be read; the place to which a spot maps a letter; the least track that it tests,
-- or 20; and a size that decreases for its branches
pub record Graph (Spot : Type 0) : Type 1 where
  pub walker : Walker
  pub most : ℕ
  pub is_place : List ℕ → Type 0
  pub can_read : Spot → Type 0
  pub leads : Spot → ℕ → List ℕ
  pub top : Spot → ℕ
  pub size : Spot → ℕ

-- distinct places, at most as many as the limit
pub record AreSeen {Spot : Type 0} (g : Graph Spot) (places : List (List ℕ)) : Type 0 where
  pub are_places : All g.is_place places
  pub different : AllPairs (λ p q. p ≢ q) places
  pub few : length places ≤ g.most
  pub most_few : g.most < 2 ^ 31

-- a spot that maps each letter to the place with a number
pub record LeadsToOne {Spot : Type 0} (g : Graph Spot) (places : List (List ℕ)) (spot : Spot) (number : ℕ) : Type 0 where
  pub place : List ℕ
  pub is : slice_get places number ≡ Some place
  pub leads : (letter : ℕ) → g.leads spot letter ≡ place
  pub top : g.top spot ≤ MOST_TRACKS

-- a spot that maps a letter as one of two spots does, by the bit of a track
pub record LeadsByTrack {Spot : Type 0} (g : Graph Spot) (spot : Spot) (track : ℕ) (low high : Spot) : Type 0 where
  pub track_low : track < MOST_TRACKS
  pub low_read : g.can_read low
  pub high_read : g.can_read high
  pub leads : (letter : ℕ)
      → g.leads spot letter ≡ (if nat_eq (bit_at letter track) 0 then g.leads low letter else g.leads high letter)
  pub top : g.top spot ≤ track
  pub low_above : track < g.top low
  pub high_above : track < g.top high
  pub low_smaller : g.size low < g.size spot
  pub high_smaller : g.size high < g.size spot

-- what a spot tests first
abbrev pub IsLook : {Spot : Type 0} → Graph Spot → List (List ℕ) → Spot → Look Spot → Type 0
IsLook g places spot (Place number) = LeadsToOne g places spot number
IsLook g places spot (Test track low high) = LeadsByTrack g spot track low high

-- a spot that maps each letter over the tracks to a given place
pub record IsRowSpot {Spot : Type 0} (g : Graph Spot) (lead : ℕ → List ℕ) (spot : Spot) : Type 0 where
  pub read : g.can_read spot
  pub narrow : (a b : ℕ) → ((k : ℕ) → k < length g.walker.tracks → bit_at a k ≡ bit_at b k)
      → g.leads spot a ≡ g.leads spot b
  pub leads : (letter : ℕ) → letter < 2 ^ length g.walker.tracks → g.leads spot letter ≡ lead letter

-- the row of the place of a number
pub record IsRowAt {Spot : Type 0} (g : Graph Spot) (places : List (List ℕ)) (number : ℕ) (spot : Spot) : Type 0 where
  pub place : List ℕ
  pub is : slice_get places number ≡ Some place
  pub row : IsRowSpot g (g.walker.next place) spot

-- the number under which a key is cached: none if it is whole
abbrev pub mark_of : Bool → Option ℕ → Option ℕ
mark_of true own = None
mark_of false own = own

-- no key is cached
abbrev pub AnswersNothing : {Spot : Type 0} → (Option ℕ → Spot → ℕ → Type 0) → Type 0
AnswersNothing {Spot} answers = (own : Option ℕ) (spot : Spot) (node : ℕ) → ¬ answers own spot node

-- at most one more key is cached
pub record AddsKey {Spot : Type 0} (old new : Option ℕ → Spot → ℕ → Type 0) (own : Option ℕ) (spot : Spot) (node : ℕ) : Type
    0 where
  pub only : (o : Option ℕ) (s : Spot) (n : ℕ) → new o s n → old o s n ⊎ ((o ≡ own) × (s ≡ spot) × (n ≡ node))
