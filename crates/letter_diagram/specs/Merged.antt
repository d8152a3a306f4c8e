-- Maps of unions of the sets that two maps number, and that one map numbers at both bits of a track.
use Rattle.std.specs.Prelude.{◌≡◌, ◌≢◌, ℕ, ◌<◌, ◌≤◌, List, length, Some, nat_eq}
use Rattle.std.specs.Int.{bit_at}
use Rattle.std.specs.HashMap.{HashMap, get}
use Rattle.letter_diagram.specs.declared.diagrams.Shape.{Shape}
use Rattle.letter_diagram.specs.Diagram.{map_at, top_track}
use Rattle.letter_diagram.specs.declared.pair_memo.PairSlot.{PairSlot}
use Rattle.letter_diagram.specs.PairMemo.{Answers}
use Rattle.letter_diagram.specs.Splits.{top_of_both}
use Rattle.letter_diagram.specs.Sets.{IsUnion}

-- a letter with this bit on a track, and the bits of the other letter elsewhere
pub record IsWithBit (other letter track bit : ℕ) : Type 0 where
  pub same : (k : ℕ) → k ≢ track → bit_at other k ≡ bit_at letter k
  pub at : bit_at other track ≡ bit

-- each value of a node's map is the number of a set
pub record HasSets (shapes : List Shape) (sets : List (List ℕ)) (node : ℕ) : Type 0 where
  pub known : node < length shapes
  pub numbered : (letter : ℕ) → map_at shapes node letter < length sets

-- two letters that differ at most in the bit of a track have equal values
pub record IgnoresTrack (shapes : List Shape) (node track : ℕ) : Type 0 where
  pub same : (x y : ℕ) → ((k : ℕ) → k ≢ track → bit_at x k ≡ bit_at y k) → map_at shapes node x ≡ map_at shapes node y

-- the map of r gives the number of the union of the sets that the maps of a and b give
pub record IsUnited (shapes : List Shape) (sets : List (List ℕ)) (a b r : ℕ) : Type 0 where
  pub a_sets : HasSets shapes sets a
  pub b_sets : HasSets shapes sets b
  pub known : r < length shapes
  pub map : (letter : ℕ) → IsUnion sets (map_at shapes a letter) (map_at shapes b letter) (map_at shapes r letter)
  pub top : top_of_both shapes a b ≤ top_track shapes r
  pub ignores : (track : ℕ) → track < top_of_both shapes a b → IgnoresTrack shapes r track

-- each set from a number on is the union of the sets that a and b give at some letter
pub record AreUnions (shapes : List Shape) (from : ℕ) (sets : List (List ℕ)) (a b : ℕ) : Type 0 where
  pub answer : (number : ℕ) → from ≤ number → number < length sets
      → (letter : ℕ) × IsUnion sets (map_at shapes a letter) (map_at shapes b letter) number

-- the results in a cache are unions of their pairs of nodes
pub record RemembersUnited (shapes : List Shape) (sets : List (List ℕ)) (memo : List PairSlot) : Type 0 where
  pub united : (a b r : ℕ) → Answers memo a b r → IsUnited shapes sets a b r

-- in the new diagrams the map of r gives the number of the union of the sets that the map of a gave at the bits 0 and 1 of a track
abbrev pub UnitesBits : List Shape → List Shape → List (List ℕ) → ℕ → ℕ → ℕ → Type 0
UnitesBits old new sets track a r =
    (letter off on : ℕ) → IsWithBit off letter track 0 → IsWithBit on letter track 1
    → IsUnion sets (map_at old a off) (map_at old a on) (map_at new r letter)

-- the map of r gives the number of the union of the sets that the map of a gives at the bits 0 and 1 of a track, and does not
-- depend on that track
pub record IsMerged (shapes : List Shape) (sets : List (List ℕ)) (track a r : ℕ) : Type 0 where
  pub source : HasSets shapes sets a
  pub known : r < length shapes
  pub map : UnitesBits shapes shapes sets track a r
  pub ignores : IgnoresTrack shapes r track
  pub top : top_track shapes a ≤ top_track shapes r

-- each set from a number on is the union of the sets that a gives at two letters that differ in one track only
pub record AreMerged (shapes : List Shape) (from : ℕ) (sets : List (List ℕ)) (track a : ℕ) : Type 0 where
  pub answer : (number : ℕ) → from ≤ number → number < length sets
      → (off on : ℕ) × (bit_at off track ≡ 0) × IsWithBit on off track 1
      × IsUnion sets (map_at shapes a off) (map_at shapes a on) number

-- the results in a cache are merged nodes
pub record RemembersMerged {S : Type 0} (shapes : List Shape) (sets : List (List ℕ)) (track : ℕ)
    (memo : HashMap ℕ ℕ S) : Type 0 where
  pub merged : (a r : ℕ) → get nat_eq memo a ≡ Some r → IsMerged shapes sets track a r
