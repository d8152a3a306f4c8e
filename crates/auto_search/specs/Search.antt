-- States at the places of a ray: fronts, and failing states.
use Rattle.std.specs.Prelude.{◌≡◌, ℕ, ◌+◌, ◌*◌, ◌/◌, ◌%◌, ◌^◌, ◌<◌, ◌≤◌, Bool, List, length, if◌then◌else◌, slice_index, slice_index_or, Option, Some, None, option_map, option_and_then, ◌⊎◌, IsTrue, MatchOption, nat_eq}
use Rattle.std.specs.Int.{bit_at}
use Rattle.limits.specs.declared.numbers.TheConstants.{MOST_TRACKS}
use Rattle.track_word.specs.Word.{integer_bit}
use Rattle.auto_core.specs.Automaton.{Automaton, width, first_state, next_state, run, is_final}
use Rattle.auto_search.specs.declared.axis.Axis.{Axis}
use Rattle.auto_search.specs.declared.ray.TrackRay.{TrackRay}
use Rattle.auto_search.specs.Bits.{number, sum_at, letter_at, letters, slot_of}

-- the letters of a ray are those of the automaton, and the carries are small
pub record Suits (a : Automaton) (ray : TrackRay) : Type 0 where
  pub x_small : ray.x.zero + ray.x.one ≤ 2
  pub y_small : ray.y.zero + ray.y.one ≤ 2
  pub narrow : (place sx sy : ℕ) → place ≤ ray.top → letter_at ray place sx sy < width a
  pub few : width a ≤ 2 ^ MOST_TRACKS
  pub few_places : ray.top ≤ 67

-- a state, or none, for each slot
pub record IsFront (a : Automaton) (front : List (Option ℕ)) : Type 0 where
  pub size : length front ≡ 9
  pub states : (slot state : ℕ) → slice_index_or front slot None ≡ Some state → state < length a.accept

-- the letters of these bits lead from a state to acceptance
abbrev pub Leads : Automaton → TrackRay → ℕ → List Bool → Type 0
Leads a ray state bits = IsTrue (is_final a (run a state (letters ray bits)))

-- the same from the front's state for the carries of these bits
pub record Completes (a : Automaton) (ray : TrackRay) (front : List (Option ℕ)) (bits : List Bool) : Type 0 where
  pub state : ℕ
  pub found : slice_index_or front (slot_of ray bits) None ≡ Some state
  pub leads : Leads a ray state bits

-- the state after one more bit, given the carries of the bits after it
abbrev pub stepped : Automaton → TrackRay → ℕ → Bool → List (Option ℕ) → ℕ → ℕ → Option ℕ
stepped a ray place bit front cx cy =
    let sx = sum_at ray.x place cx bit in
    let sy = sum_at ray.y place cy bit in
    option_map (λ state. next_state a state (letter_at ray place sx sy))
    (slice_index_or front (3 * (sx / 2) + sy / 2) None)

-- these carries are possible on the two tracks
abbrev pub MayCarry : TrackRay → ℕ → ℕ → Type 0
MayCarry ray cx cy = (cx ≤ ray.x.zero + ray.x.one) × (cy ≤ ray.y.zero + ray.y.one)

-- the front after one more bit
pub record IsStep (a : Automaton) (ray : TrackRay) (place : ℕ) (bit : Bool) (front after : List (Option ℕ)) : Type 0 where
  pub only : (slot state : ℕ) → slice_index_or after slot None ≡ Some state → MayCarry ray (slot / 3) (slot % 3)
  pub at : (slot : ℕ) → slot < 9 → slot / 3 ≤ ray.x.zero + ray.x.one → slot % 3 ≤ ray.y.zero + ray.y.one
      → slice_index_or after slot None ≡ stepped a ray place bit front (slot / 3) (slot % 3)

-- the index of the cell of a state at a place
abbrev pub cell_of : Automaton → ℕ → ℕ → ℕ
cell_of a place state = place * length a.accept + state

-- the mark of a state for a place and a slot
abbrev pub mark : Automaton → List ℕ → ℕ → ℕ → ℕ → ℕ
mark a failed place state slot = bit_at (slice_index failed (cell_of a place state)) slot

-- marked states cannot reach acceptance
pub record Remembers (a : Automaton) (ray : TrackRay) (failed : List ℕ) : Type 0 where
  pub dead : (bits : List Bool) (state : ℕ) → state < length a.accept
      → mark a failed (length bits) state (slot_of ray bits) ≡ 1 → Leads a ray state bits → ⊥

-- the front without its marked states
pub record IsLive (a : Automaton) (failed : List ℕ) (place : ℕ) (front live : List (Option ℕ)) : Type 0 where
  pub kept : (slot state : ℕ) → slice_index_or live slot None ≡ Some state → slice_index_or front slot None ≡ Some state
  pub others : (slot state : ℕ) → slice_index_or front slot None ≡ Some state
      → (slice_index_or live slot None ≡ Some state) ⊎ (mark a failed place state slot ≡ 1)

-- no last bits, this many, complete the front
pub record IsDead (a : Automaton) (ray : TrackRay) (place : ℕ) (front : List (Option ℕ)) : Type 0 where
  pub none : (bits : List Bool) → length bits ≡ place → Completes a ray front bits → ⊥

-- the least number whose bits complete the front
pub record IsLeastAhead (a : Automaton) (ray : TrackRay) (place : ℕ) (front : List (Option ℕ)) (ahead : ℕ) : Type 0 where
  pub bits : List Bool
  pub size : length bits ≡ place
  pub is : number bits ≡ ahead
  pub completes : Completes a ray front bits
  pub least : (others : List Bool) → length others ≡ place → Completes a ray front others → ahead ≤ number others
  pub below : ahead < 2 ^ place

abbrev pub IsFoundAhead : Automaton → TrackRay → ℕ → List (Option ℕ) → Option ℕ → Type 0
IsFoundAhead a ray place front found = MatchOption found (IsDead a ray place front) (IsLeastAhead a ray place front)

-- the bits of the number complete the front
pub record CompletedBy (a : Automaton) (ray : TrackRay) (place : ℕ) (front : List (Option ℕ)) (n : ℕ) : Type 0 where
  pub bits : List Bool
  pub size : length bits ≡ place
  pub is : number bits ≡ n
  pub completes : Completes a ray front bits

-- the sign bit, given the carry of all bits into a place, or none if the value is too long
abbrev pub sign_of : Axis → ℕ → ℕ → Option ℕ
sign_of axis place carried =
    if nat_eq carried (axis.zero + integer_bit axis.base place) then Some 0 else
    (if nat_eq (carried + 1) (axis.zero + integer_bit axis.base place) then Some 1 else None)

-- the state after the sign letter, given the carries of all bits
abbrev pub started : Automaton → TrackRay → ℕ → ℕ → Option ℕ
started a ray cx cy =
    option_and_then (λ sx. option_map (λ sy. first_state a (letter_at ray ray.top sx sy)) (sign_of ray.y ray.top cy))
    (sign_of ray.x ray.top cx)

-- the front before all bits
pub record IsStart (a : Automaton) (ray : TrackRay) (front : List (Option ℕ)) : Type 0 where
  pub at : (slot : ℕ) → slot < 9 → slice_index_or front slot None ≡ started a ray (slot / 3) (slot % 3)

-- the least number whose bits complete the front before all bits
pub record IsFirstAhead (a : Automaton) (ray : TrackRay) (found : Option ℕ) : Type 0 where
  pub front : List (Option ℕ)
  pub start : IsStart a ray front
  pub found_ahead : IsFoundAhead a ray ray.top front found
