-- Heads visited by a traversal: each state is visited at most twice for each slot, in addition to the starting entries.
use Rattle.std.specs.Prelude.{◌≡◌, ◌≢◌, ◌↔◌, ℕ, ◌+◌, ◌*◌, ◌/◌, ◌%◌, ◌^◌, ◌<◌, ◌≤◌, Bool, true, false, List, [], ◌∷◌, length, All, sum, if◌then◌else◌, slice_index, slice_index_or, slice_set, Option, Some, None, ◌⊎◌}
use Rattle.auto_core.specs.Automaton.{Automaton}
use Rattle.auto_search.specs.declared.ray.TrackRay.{TrackRay}
use Rattle.auto_search.specs.Bits.{sum_at, number, slot_of}
use Rattle.auto_search.specs.declared.few.Few.{Few}
use Rattle.auto_search.specs.Fews.{HasFew}
use Rattle.auto_search.specs.Search.{IsStep, Leads, MayCarry}
use Rattle.auto_search.specs.Heads.{IsTrimmed, headed, head_number}

-- the origin of the entries of a traversal: their heads, their predecessors, by which bit, and when
pub record Trace : Type 0 where
  pub heads : ℕ → List Bool
  pub parent : ℕ → ℕ
  pub bit : ℕ → Bool
  pub key : ℕ → ℕ

-- the slot after one more bit
abbrev pub up : TrackRay → Bool → ℕ → ℕ
up ray bit slot = 3 * (sum_at ray.x ray.top (slot / 3) bit / 2) + sum_at ray.y ray.top (slot % 3) bit / 2

-- the moment at which a slot is tried after an entry by a bit
abbrev pub moment : ℕ → Bool → ℕ → ℕ
moment entry bit slot = 9 + (entry * 2 + (if bit then 1 else 0)) * 9 + slot

-- the carries of a slot are possible
abbrev pub IsSlot : TrackRay → ℕ → Type 0
IsSlot ray slot = MayCarry ray (slot / 3) (slot % 3)

-- an entry has this head, slot and state
pub record Entered (g : Trace) (states slots : List ℕ) (len : ℕ) (head : List Bool) (slot state : ℕ) : Type 0 where
  pub entry : ℕ
  pub within : entry < len
  pub is_head : g.heads entry ≡ head
  pub is_slot : slice_index slots entry ≡ slot
  pub is_state : slice_index states entry ≡ state

-- an entry with a head of this length has this slot and state
pub record Once (g : Trace) (states slots : List ℕ) (len slot state : ℕ) : Type 0 where
  pub entry : ℕ
  pub within : entry < len
  pub some : g.heads entry ≢ []
  pub is_slot : slice_index slots entry ≡ slot
  pub is_state : slice_index states entry ≡ state

-- two such entries exist
pub record Twice (g : Trace) (states slots : List ℕ) (len slot state : ℕ) : Type 0 where
  pub first : ℕ
  pub second : ℕ
  pub order : first < second
  pub within : second < len
  pub some_first : g.heads first ≢ []
  pub some_second : g.heads second ≢ []
  pub first_slot : slice_index slots first ≡ slot
  pub first_state : slice_index states first ≡ state
  pub second_slot : slice_index slots second ≡ slot
  pub second_state : slice_index states second ≡ state

-- the head is visited, or its state is visited twice
abbrev pub Known : Trace → List ℕ → List ℕ → ℕ → List Bool → ℕ → ℕ → Type 0
Known g states slots len head slot state =
    Entered g states slots len head slot state ⊎ Twice g states slots len slot state

-- a starting entry
pub record IsFirst (g : Trace) (slots : List ℕ) (entry : ℕ) : Type 0 where
  pub head : g.heads entry ≡ []
  pub key : g.key entry ≡ slice_index slots entry

-- an entry that follows another by a bit
pub record Follows (ray : TrackRay) (g : Trace) (slots : List ℕ) (entry : ℕ) : Type 0 where
  pub head : g.heads entry ≡ g.bit entry ∷ g.heads (g.parent entry)
  pub before : g.parent entry < entry
  pub slot : slice_index slots (g.parent entry) ≡ up ray (g.bit entry) (slice_index slots entry)
  pub key : g.key entry ≡ moment (g.parent entry) (g.bit entry) (slice_index slots entry)

-- the entries visited before a moment
pub record IsMet (a : Automaton) (ray : TrackRay) (g : Trace) (times states slots : List ℕ) (len starts now : ℕ) : Type
    0 where
  pub trimmed : (j : ℕ) → j < len → IsTrimmed (g.heads j)
  pub reads : (j : ℕ) → j < len
      → headed a ray (g.heads j) (slice_index slots j / 3) (slice_index slots j % 3) ≡ Some (slice_index states j)
  pub small : (j : ℕ) → j < len → (slice_index slots j < 9) × (slice_index states j < length a.accept)
  pub origin : (j : ℕ) → j < len → IsFirst g slots j ⊎ Follows ray g slots j
  pub enough : starts ≤ len
  pub begins : (j : ℕ) → j < len → (g.heads j ≡ []) ↔ (j < starts)
  pub increasing : (i j : ℕ) → i < j → j < len → g.key i < g.key j
  pub before : (j : ℕ) → j < len → g.key j < now
  pub firsts : (slot state : ℕ) → slot < now → slot < 9 → IsSlot ray slot
      → headed a ray [] (slot / 3) (slot % 3) ≡ Some state → Entered g states slots len [] slot state
  pub once : (slot state : ℕ) → slot < 9 → 1 ≤ slice_index times (state * 9 + slot) → Once g states slots len slot state
  pub twice : (slot state : ℕ) → slot < 9 → 2 ≤ slice_index times (state * 9 + slot)
      → Twice g states slots len slot state
  pub closed : (k slot state : ℕ) (bit : Bool) → k < len → slot < 9 → moment k bit slot < now
      → (g.heads k ≡ [] → bit ≡ true) → IsSlot ray slot
      → headed a ray (bit ∷ g.heads k) (slot / 3) (slot % 3) ≡ Some state
      → up ray bit slot ≡ slice_index slots k → Known g states slots len (bit ∷ g.heads k) slot state

-- there is room for all possible entries
pub record HasPlace (a : Automaton) (times states slots : List ℕ) (len : ℕ) : Type 0 where
  pub times_size : length a.accept * 9 ≤ length times
  pub states_size : 9 + 2 * length times ≤ length states
  pub slots_size : 9 + 2 * length times ≤ length slots
  pub low : All (λ n. n ≤ 2) times
  pub filled : len ≤ 9 + sum times

-- the trace of the entries so far is unchanged
pub record KeepsTrace (old new : Trace) (len : ℕ) : Type 0 where
  pub heads : (j : ℕ) → j < len → new.heads j ≡ old.heads j
  pub parent : (j : ℕ) → j < len → new.parent j ≡ old.parent j
  pub bit : (j : ℕ) → j < len → new.bit j ≡ old.bit j
  pub key : (j : ℕ) → j < len → new.key j ≡ old.key j

-- one more entry, if its state was visited less than twice before
abbrev pub Adds : List ℕ → List ℕ → List ℕ → ℕ → List ℕ → List ℕ → List ℕ → ℕ → ℕ → ℕ → Type 0
Adds times states slots len times' states' slots' len' state slot =
    ((2 ≤ slice_index times (state * 9 + slot)) × (times' ≡ times) × (states' ≡ states) × (slots' ≡ slots)
    × (len' ≡ len))
    ⊎ ((slice_index times (state * 9 + slot) < 2)
    × (times' ≡ slice_set times (state * 9 + slot) (slice_index times (state * 9 + slot) + 1))
    × (states' ≡ slice_set states len state) × (slots' ≡ slice_set slots len slot) × (len' ≡ len + 1))

-- the lists keep their lengths
pub record SameSizes (times states slots times' states' slots' : List ℕ) : Type 0 where
  pub times_kept : length times' ≡ length times
  pub states_kept : length states' ≡ length states
  pub slots_kept : length slots' ≡ length slots

-- the traversal continues from one moment to another
pub record Walks (a : Automaton) (ray : TrackRay) (times states slots : List ℕ) (len : ℕ) (times' states' slots' : List ℕ)
    (len' starts starts' now now' : ℕ) : Type 0 where
  pub longer : len ≤ len'
  pub same_states : (j : ℕ) → j < len → slice_index states' j ≡ slice_index states j
  pub same_slots : (j : ℕ) → j < len → slice_index slots' j ≡ slice_index slots j
  pub sizes : SameSizes times states slots times' states' slots'
  pub place : HasPlace a times' states' slots' len'
  pub met : (g : Trace) → IsMet a ray g times states slots len starts now
      → (new : Trace) × IsMet a ray new times' states' slots' len' starts' now' × KeepsTrace g new len

-- the front with one state only
pub record IsAlone (slot state : ℕ) (front : List (Option ℕ)) : Type 0 where
  pub there : slice_index_or front slot None ≡ Some state
  pub only : (other found : ℕ) → slice_index_or front other None ≡ Some found → (other ≡ slot) × (found ≡ state)

-- the front after one more bit of one state
pub record IsAfter (a : Automaton) (ray : TrackRay) (slot state : ℕ) (bit : Bool) (after : List (Option ℕ)) : Type 0 where
  pub front : List (Option ℕ)
  pub alone : IsAlone slot state front
  pub step : IsStep a ray ray.top bit front after

-- an entry before another one, with bits that lead from its state to acceptance, yields the number
pub record Yields (a : Automaton) (ray : TrackRay) (g : Trace) (states slots : List ℕ) (end n : ℕ) : Type 0 where
  pub entry : ℕ
  pub within : entry < end
  pub lo : List Bool
  pub size : length lo ≡ ray.top
  pub is : n ≡ head_number (g.heads entry) * 2 ^ ray.top + number lo
  pub slot : slot_of ray lo ≡ slice_index slots entry
  pub leads : Leads a ray (slice_index states entry) lo

-- a head with the bits after it that leads to acceptance yields the number
pub record Meets (a : Automaton) (ray : TrackRay) (n : ℕ) : Type 0 where
  pub head : List Bool
  pub trimmed : IsTrimmed head
  pub lo : List Bool
  pub size : length lo ≡ ray.top
  pub is : n ≡ head_number head * 2 ^ ray.top + number lo
  pub state : ℕ
  pub reads : headed a ray head (slot_of ray lo / 3) (slot_of ray lo % 3) ≡ Some state
  pub leads : Leads a ray state lo

-- the entries before a given one are counted
pub record Counting (a : Automaton) (ray : TrackRay) (times states slots : List ℕ) (len starts end : ℕ) (few : Few) : Type
    0 where
  pub enough : end ≤ len
  pub place : HasPlace a times states slots len
  pub trace : Trace
  pub met : IsMet a ray trace times states slots len starts (moment end false 0)
  pub few_yields : HasFew few (Yields a ray trace states slots end)

-- there is room for all possible entries
pub record HasSizes (a : Automaton) (times states slots : List ℕ) : Type 0 where
  pub times_size : length a.accept * 9 ≤ length times
  pub states_size : 9 + 2 * length times ≤ length states
  pub slots_size : 9 + 2 * length times ≤ length slots

-- the starting entries of a traversal, as far as they are recorded
pub record Begins (a : Automaton) (ray : TrackRay) (times states slots : List ℕ) (len now : ℕ) : Type 0 where
  pub sizes : HasSizes a times states slots
  pub none : (k : ℕ) → slice_index times k ≡ 0
  pub little : len ≤ now
  pub trace : Trace
  pub met : IsMet a ray trace times states slots len len now

-- each state visited with a slot has an entry
pub record IsEntered (times states slots : List ℕ) (len : ℕ) : Type 0 where
  pub in_states : len ≤ length states
  pub in_slots : len ≤ length slots
  pub within : (j : ℕ) → j < len → slice_index states j * 9 + slice_index slots j < length times
  pub each : (k : ℕ) → 0 < slice_index times k
      → (j : ℕ) × (j < len) × (slice_index states j * 9 + slice_index slots j ≡ k)
