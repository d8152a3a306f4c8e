-- Words over tracks, and the integers that they spell.
use Rattle.std.specs.Prelude.{◌≡◌, ◌≢◌, ℕ, zero, suc, ℤ, pos, negsuc, ◌-ℤ◌, ◌+◌, ◌-◌, ◌*◌, ◌^◌, ◌<◌, ◌≤◌, List, [], ◌∷◌, length, All, slice_index_or}
use Rattle.std.specs.Int.{bit_at}

-- the bit of a place in two's complement of any length
abbrev pub integer_bit : ℤ → ℕ → ℕ
integer_bit (pos n) place = bit_at n place
integer_bit (negsuc n) place = 1 - bit_at n place

-- the value of the letters after the sign letter on a track
abbrev pub low_value : List ℕ → ℕ → ℕ
low_value [] track = 0
low_value (letter ∷ letters) track = bit_at letter track * 2 ^ length letters + low_value letters track

-- the value of a word on a track, in two's complement
abbrev pub val : List ℕ → ℕ → ℤ
val [] track = pos 0
val (sign ∷ letters) track = pos (low_value letters track) -ℤ pos (bit_at sign track * 2 ^ length letters)

-- a word over this many tracks: nonempty, its letters below 2^tracks
pub record IsWord (tracks : ℕ) (word : List ℕ) : Type 0 where
  pub nonempty : word ≢ []
  pub letters : All (λ letter. letter < 2 ^ tracks) word

-- the word with its first letter repeated once
abbrev pub repeat_first : List ℕ → List ℕ
repeat_first [] = []
repeat_first (sign ∷ letters) = sign ∷ sign ∷ letters

-- the word with its first letter repeated k times
abbrev pub repeated : ℕ → List ℕ → List ℕ
repeated zero word = word
repeated (suc k) word = repeat_first (repeated k word)

-- a word with one track for each integer that spells the integers
pub record Spells (integers : List ℤ) (word : List ℕ) : Type 0 where
  pub is_word : IsWord (length integers) word
  pub values : (track : ℕ) → track < length integers → val word track ≡ slice_index_or integers track (pos 0)

abbrev pub RepeatKeepsValues : Type 0
RepeatKeepsValues = (word : List ℕ) (track : ℕ) → val (repeat_first word) track ≡ val word track

-- the letter of the bits of the integers at a place
abbrev pub letter_of : List ℤ → ℕ → ℕ
letter_of [] place = 0
letter_of (integer ∷ integers) place = integer_bit integer place + 2 * letter_of integers place

-- the letters of the places below a place, highest first
abbrev pub letters_below : List ℤ → ℕ → List ℕ
letters_below integers zero = []
letters_below integers (suc place) = letter_of integers place ∷ letters_below integers place

-- the word of the bits of the integers from a place downwards
abbrev pub spelled : List ℤ → ℕ → List ℕ
spelled integers place = letter_of integers place ∷ letters_below integers place

-- the bits of the integer from a place on are all its sign
abbrev pub FitsBelow : ℕ → ℤ → Type 0
FitsBelow place (pos n) = n < 2 ^ place
FitsBelow place (negsuc n) = n < 2 ^ place

abbrev pub BitsSpell : Type 0
BitsSpell = (integers : List ℤ) (place : ℕ) → All (FitsBelow place) integers → Spells integers (spelled integers place)

abbrev pub TuplesHaveWords : Type 0
TuplesHaveWords =
    (integers : List ℤ) → length integers ≤ 32
    → (least : ℕ) × ((n : ℕ) → least ≤ n → (word : List ℕ) × Spells integers word × (length word ≡ n))

abbrev pub EqualValuesEqualWords : Type 0
EqualValuesEqualWords =
    (tracks : ℕ) (v w : List ℕ) → IsWord tracks v → IsWord tracks w → length v ≡ length w
    → ((track : ℕ) → track < tracks → val v track ≡ val w track) → v ≡ w
