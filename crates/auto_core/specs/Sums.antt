-- Weighted sums of letters, and states that represent them.
use Rattle.std.specs.Prelude.{◌≡◌, ◌↔◌, ℕ, suc, ℤ, pos, negsuc, neg_ℤ, unsigned_abs, ◌+ℤ◌, ◌*ℤ◌, ◌≤ℤ◌, ◌+◌, ◌*◌, ◌<◌, ◌≤◌, List, [], ◌∷◌, length, map, fold, All, drop, nat_lt, if◌then◌else◌, slice_index, slice_index_or, Bool, false, IsTrue, Some, nat_eq, ◌&&◌}
use Rattle.std.specs.List.{sum_by}
use Rattle.std.specs.Int.{bit_at}
use Rattle.std.specs.Ordering.{int_eq}
use Rattle.std.specs.HashMap.{HashMap, get}
use Rattle.track_word.specs.declared.tracks.Var.{Var}
use Rattle.track_word.specs.declared.atoms.Rel.{Rel}
use Rattle.track_word.specs.Tracks.{IsAscending}
use Rattle.track_word.specs.Atom.{Compares}
use Rattle.letter_diagram.specs.declared.diagrams.Shape.{Shape}
use Rattle.letter_diagram.specs.Diagram.{map_at, top_track}
use Rattle.auto_core.specs.declared.sums.ValueRange.{ValueRange}

-- an ascending list of terms with one more
abbrev pub with_term : ℤ × Var → List (ℤ × Var) → List (ℤ × Var)
with_term t [] = t ∷ []
with_term t (u ∷ terms) = if nat_lt t.1.0 u.1.0 then t ∷ u ∷ terms else u ∷ with_term t terms

abbrev pub ordered_terms : List (ℤ × Var) → List (ℤ × Var)
ordered_terms [] = []
ordered_terms (t ∷ terms) = with_term t (ordered_terms terms)

-- a weight from -64 to 64
abbrev pub IsSmall : ℤ → Type 0
IsSmall weight = (negsuc 63 ≤ℤ weight) × (weight ≤ℤ pos 64)

-- the weight if it is positive, 0 otherwise
abbrev pub gain : ℤ → ℕ
gain (pos n) = n
gain (negsuc n) = 0

abbrev pub loss : ℤ → ℕ
loss (pos n) = 0
loss (negsuc n) = suc n

-- the range of sums of the weights: the positive ones and the negated negative ones together
abbrev pub reach_of : List ℤ → ℕ
reach_of weights = sum_by gain weights + sum_by loss weights

-- the sum of the absolute values of the coefficients
abbrev pub sizes_of : List (ℤ × Var) → ℕ
sizes_of terms = sum_by (λ t. unsigned_abs t.0) terms

-- the weights of a letter's bits, by the tracks from a track on
abbrev pub weight_from : ℕ → List ℤ → ℕ → ℤ
weight_from track [] letter = pos 0
weight_from track (weight ∷ weights) letter =
    (weight *ℤ pos (bit_at letter track)) +ℤ weight_from (suc track) weights letter

-- the sum after one more letter of this weight
abbrev pub step : (ℕ → ℤ) → ℤ → ℕ → ℤ
step weight x letter = x +ℤ x +ℤ weight letter

-- the sum of a word's letters, the sign letter counting negatively
abbrev pub total : (ℕ → ℤ) → List ℕ → ℤ
total weight [] = pos 0
total weight (sign ∷ letters) = fold (step weight) (neg_ℤ (weight sign)) letters

-- the weighted sum of a word compares with the bound
abbrev pub SumCompares : List ℤ → Rel → ℤ → List ℕ → Type 0
SumCompares weights rel bound word = Compares rel (total (weight_from 0 weights) word) bound

-- the weights of ascending tracks, each from -64 to 64, and the negated weights for the sign letter
pub record AreWeights (tracks : List Var) (weights opposite : List ℤ) : Type 0 where
  pub ascending : IsAscending tracks
  pub few : length tracks ≤ 8
  pub size : length weights ≡ length tracks
  pub small : All IsSmall weights
  pub negative : opposite ≡ map neg_ℤ weights

-- a sum that the weights of some tracks can reach
pub record IsNear (track : ℕ) (sum : ℤ) : Type 0 where
  pub low : neg_ℤ (pos (3000 + 64 * track)) ≤ℤ sum
  pub high : sum ≤ℤ pos (3000 + 64 * track)

-- a range of at least two values near 0
pub record IsSpan (span : ValueRange) : Type 0 where
  pub some : (span.low +ℤ pos 1) ≤ℤ span.high
  pub low : negsuc 1499 ≤ℤ span.low
  pub high : span.high ≤ℤ pos 1499

-- the range contains the bound, and no letter leads back from an end of it
pub record IsSpanOf (weights : List ℤ) (bound : ℤ) (span : ValueRange) : Type 0 where
  pub is_span : IsSpan span
  pub below : (span.low +ℤ pos 1) ≤ℤ bound
  pub above : (bound +ℤ pos 1) ≤ℤ span.high
  pub gains : (span.low +ℤ pos (sum_by gain weights)) ≤ℤ pos 0
  pub losses : pos (sum_by loss weights) ≤ℤ span.high
  pub size : span.high ≤ℤ (span.low +ℤ pos (reach_of weights + unsigned_abs bound + 2))

-- the state of the sum: its distance from the lowest value, limited to the range
pub record StandsFor (span : ValueRange) (sum : ℤ) (state : ℕ) : Type 0 where
  pub within : (span.low +ℤ pos state) ≤ℤ span.high
  pub below : sum ≤ℤ span.low → state ≡ 0
  pub between : span.low ≤ℤ sum → sum ≤ℤ span.high → span.low +ℤ pos state ≡ sum
  pub above : span.high ≤ℤ sum → span.low +ℤ pos state ≡ span.high

-- the node's map gives a letter the state of the sum plus the weights of its bits from a track on
pub record IsSumRow (shapes : List Shape) (weights : List ℤ) (span : ValueRange) (track : ℕ) (sum : ℤ) (node : ℕ) : Type
    0 where
  pub known : node < length shapes
  pub map : (letter : ℕ)
      → StandsFor span (sum +ℤ weight_from track (drop track weights) letter) (map_at shapes node letter)
  pub top : track ≤ top_track shapes node

abbrev pub key_eq : ℕ × ℤ → ℕ × ℤ → Bool
key_eq p q = nat_eq p.0 q.0 && int_eq p.1 q.1

-- the results in a cache are such nodes
pub record RemembersSums {S : Type 0} (shapes : List Shape) (weights : List ℤ) (span : ValueRange)
    (memo : HashMap (ℕ × ℤ) ℕ S) : Type 0 where
  pub rows : (track : ℕ) (sum : ℤ) (node : ℕ) → get key_eq memo (track, sum) ≡ Some node
      → IsSumRow shapes weights span track sum node

-- the rows of the states: a letter doubles the value and adds the weights of its bits
pub record AreSumRows (shapes : List Shape) (weights : List ℤ) (span : ValueRange) (nodes : List ℕ) : Type 0 where
  pub rows : (i : ℕ) → i < length nodes
      → IsSumRow shapes weights span 0 ((span.low +ℤ pos i) +ℤ (span.low +ℤ pos i)) (slice_index nodes i)

-- the flag of each state says whether its value compares with the bound
pub record AreFlagsOf (rel : Rel) (bound : ℤ) (span : ValueRange) (flags : List Bool) : Type 0 where
  pub tells : (i : ℕ) → i < length flags
      → IsTrue (slice_index_or flags i false) ↔ Compares rel (span.low +ℤ pos i) bound
