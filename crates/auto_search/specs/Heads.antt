-- The first bits of a distance, and the states that they reach.
use Rattle.std.specs.Prelude.{◌≡◌, ℕ, ◌+◌, ◌*◌, ◌/◌, ◌%◌, ◌<◌, ◌≤◌, Bool, false, List, [], ◌∷◌, ◌++◌, if◌then◌else◌, slice_index_or, Option, Some, None, option_map}
use Rattle.auto_core.specs.Automaton.{Automaton, next_state}
use Rattle.auto_search.specs.declared.ray.TrackRay.{TrackRay}
use Rattle.auto_search.specs.Bits.{sum_at, letter_at}
use Rattle.auto_search.specs.Search.{started, MayCarry}

-- the number with these bits, lowest first
abbrev pub head_number : List Bool → ℕ
head_number [] = 0
head_number (bit ∷ head) = 2 * head_number head + (if bit then 1 else 0)

-- the highest bit is 1
abbrev pub IsTrimmed : List Bool → Type 0
IsTrimmed [] = Unit {0}
IsTrimmed (bit ∷ head) = IsTrimmed head × (0 < head_number (bit ∷ head))

-- the state after the sign letter and the letters of these bits, at places from the top on, given the carries of the remaining bits
abbrev pub read : Automaton → TrackRay → List Bool → ℕ → ℕ → Option ℕ
read a ray [] cx cy = started a ray cx cy
read a ray (bit ∷ head) cx cy =
    let sx = sum_at ray.x ray.top cx bit in
    let sy = sum_at ray.y ray.top cy bit in
    option_map (λ state. next_state a state (letter_at ray ray.top sx sy)) (read a ray head (sx / 2) (sy / 2))

-- zero bits so high that no value is too long
abbrev pub zeros : List Bool
zeros = false ∷ false ∷ false ∷ []

-- the state of a head, given the carries of the bits below the top
abbrev pub headed : Automaton → TrackRay → List Bool → ℕ → ℕ → Option ℕ
headed a ray head cx cy = read a ray (head ++ zeros) cx cy

-- the front of the head 0
pub record IsOpened (a : Automaton) (ray : TrackRay) (front : List (Option ℕ)) : Type 0 where
  pub at : (slot : ℕ) → slot < 9 → (slot / 3 ≤ ray.x.zero + ray.x.one) → (slot % 3 ≤ ray.y.zero + ray.y.one)
      → slice_index_or front slot None ≡ headed a ray [] (slot / 3) (slot % 3)
  pub only : (slot state : ℕ) → slice_index_or front slot None ≡ Some state → MayCarry ray (slot / 3) (slot % 3)
