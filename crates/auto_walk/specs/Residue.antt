-- Residues of a track's value as places: the only entry of each is the residue.
use Rattle.std.specs.Prelude.{◌≡◌, ◌≢◌, ◌⊎◌, ℕ, ◌+◌, ◌-◌, ◌*◌, ◌%◌, ◌<◌, ◌≤◌, pos, List, [], ◌∷◌, length, slice_index, slice_get, Some, AllPairs, nat_eq, if◌then◌else◌}
use Rattle.std.specs.Int.{bit_at, int_rem_euclid}
use Rattle.track_word.specs.declared.tracks.Var.{Var}
use Rattle.track_word.specs.Tracks.{word_values}
use Rattle.letter_diagram.specs.declared.diagrams.Shape.{Shape}
use Rattle.letter_diagram.specs.Diagram.{map_at}
use Rattle.auto_walk.specs.Walker.{Walker}

-- the residue after one more bit
abbrev pub next_residue : ℕ → List ℕ → ℕ → List ℕ
next_residue modulus place letter = (2 * slice_index place 0 + bit_at letter 0) % modulus ∷ []

-- the walk over residues; the bit 1 of a sign letter counts as -1
abbrev pub residue_walker : List Var → ℕ → ℕ → Walker
residue_walker tracks modulus residue = record {
  tracks = tracks;
  first = λ sign. bit_at sign 0 * (modulus - 1) ∷ [];
  next = next_residue modulus;
  final = λ place. nat_eq (slice_index place 0) residue;
}

-- the value of the variable has this nonnegative remainder
abbrev pub ResidueHolds : Var → ℕ → ℕ → List ℕ → Type 0
ResidueHolds var modulus residue word = int_rem_euclid (word_values (var ∷ []) word var.0) (pos modulus) ≡ pos residue

-- the node's map gives each letter, by its bit, the number of one of two residues; no other places are new
pub record IsBitRow (shapes : List Shape) (old new : List (List ℕ)) (low high node : ℕ) : Type 0 where
  pub known : node < length shapes
  pub leads : (letter : ℕ)
      → slice_get new (map_at shapes node letter) ≡ Some ((if nat_eq (bit_at letter 0) 0 then low else high) ∷ [])
  pub different : AllPairs (λ p q. p ≢ q) new
  pub added : (number : ℕ) → length old ≤ number → number < length new
      → (slice_get new number ≡ Some (low ∷ [])) ⊎ (slice_get new number ≡ Some (high ∷ []))
