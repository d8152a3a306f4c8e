-- A distance bit by bit, and what its last bits carry into the earlier places.
use Rattle.std.specs.Prelude.{◌≡◌, ℕ, suc, ℤ, pos, negsuc, ◌+ℤ◌, ◌*ℤ◌, ◌+◌, ◌*◌, ◌/◌, ◌%◌, ◌^◌, ◌<◌, ◌≤◌, unsigned_abs, Bool, List, [], ◌∷◌, length, All, if◌then◌else◌, slice_index, slice_index_or}
use Rattle.track_word.specs.Word.{integer_bit, letter_of, FitsBelow}
use Rattle.auto_search.specs.declared.tuple_ray.TupleRay.{TupleRay}
use Rattle.auto_search.specs.declared.axis.Axis.{Axis}
use Rattle.auto_search.specs.declared.ray.TrackRay.{TrackRay}

-- the number with these bits, highest first
abbrev pub number : List Bool → ℕ
number [] = 0
number (bit ∷ bits) = (if bit then 2 ^ length bits else 0) + number bits

-- the sum at a place
abbrev pub sum_at : Axis → ℕ → ℕ → Bool → ℕ
sum_at axis place carried bit = carried + integer_bit axis.base place + (if bit then axis.one else axis.zero)

-- what the last bits of a distance carry into the place before them
abbrev pub carry : Axis → List Bool → ℕ
carry axis [] = axis.zero
carry axis (bit ∷ bits) = sum_at axis (length bits) (carry axis bits) bit / 2

-- the letter of a place at these sums
abbrev pub letter_at : TrackRay → ℕ → ℕ → ℕ → ℕ
letter_at ray place sx sy = slice_index ray.still place + sx % 2 * ray.x.unit + sy % 2 * ray.y.unit

-- the letters of the last bits
abbrev pub letters : TrackRay → List Bool → List ℕ
letters ray [] = []
letters ray (bit ∷ bits) =
    letter_at ray (length bits) (sum_at ray.x (length bits) (carry ray.x bits) bit)
    (sum_at ray.y (length bits) (carry ray.y bits) bit)
    ∷ letters ray bits

-- the slot of the carries of the last bits on the two tracks: 0 to 8
abbrev pub slot_of : TrackRay → List Bool → ℕ
slot_of ray bits = 3 * carry ray.x bits + carry ray.y bits

-- the absolute value of a negative slope, and of a positive one
abbrev pub fall : ℤ → ℕ
fall (pos n) = 0
fall (negsuc n) = suc n

abbrev pub rise : ℤ → ℕ
rise (pos n) = n
rise (negsuc n) = 0

-- a track's value, counted from the near end of the ray
pub record IsAxis (value d : ℤ) (near track : ℕ) (axis : Axis) : Type 0 where
  pub base : axis.base ≡ value +ℤ (pos near *ℤ d)
  pub zero : axis.zero ≡ fall d
  pub one : axis.one ≡ rise d
  pub unit : axis.unit ≡ 2 ^ track

-- the letter of a place without the bits of the two moving tracks
abbrev pub IsStill : TupleRay → ℕ → ℕ → Type 0
IsStill way place letter =
    letter + integer_bit (slice_index_or way.fixed.now way.x_track (pos 0)) place * 2 ^ way.x_track + integer_bit
    (slice_index_or way.fixed.now way.y_track (pos 0)) place * 2 ^ way.y_track ≡ letter_of way.fixed.now place

-- the ray as it is searched from its near end on; its values within this many steps have only sign bits from the top on
pub record IsRay (way : TupleRay) (near steps : ℕ) (ray : TrackRay) : Type 0 where
  pub x : IsAxis (slice_index_or way.fixed.now way.x_track (pos 0)) way.dx near way.x_track ray.x
  pub y : IsAxis (slice_index_or way.fixed.now way.y_track (pos 0)) way.dy near way.y_track ray.y
  pub still : (place : ℕ) → place ≤ ray.top → IsStill way place (slice_index ray.still place)
  pub fits : All (FitsBelow ray.top) way.fixed.now
  pub x_fits : unsigned_abs ray.x.base + 2 * steps < 2 ^ ray.top
  pub y_fits : unsigned_abs ray.y.base + 2 * steps < 2 ^ ray.top
  pub few_places : ray.top ≤ 67
