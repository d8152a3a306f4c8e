-- Bytes as a script spells them.
use Rattle.std.specs.Prelude.{◌≡◌, ◌≢◌, ◌⊎◌, ℕ, ◌+◌, ◌*◌, ◌<◌, ◌≤◌, List, [], ◌∷◌}

-- a hexadecimal digit, 0 to 9 or a to f, and its number
abbrev pub IsDigit : (digit value : ℕ) → Type 0
IsDigit digit value =
    ((value < 10) × (digit ≡ 48 + value))
    ⊎ ((10 ≤ value) × (value < 16) × (digit ≡ 87 + value))

-- The two digits are those of the byte.
abbrev pub AreDigits : (high low byte : ℕ) → Type 0
AreDigits high low byte = (h l : ℕ) × IsDigit high h × IsDigit low l × (byte ≡ 16 * h + l)

-- The text begins with two digits for the byte.
abbrev pub BeginsWithDigits : (text : List ℕ) (byte : ℕ) (rest : List ℕ) → Type 0
BeginsWithDigits text byte rest = (high low : ℕ) × (text ≡ high ∷ (low ∷ rest)) × AreDigits high low byte

-- The text after a backslash begins with the characters for the byte: a backslash, n for LF, r for CR, or x and two
-- digits.
abbrev pub Escapes : (text : List ℕ) (byte : ℕ) (rest : List ℕ) → Type 0
Escapes text byte rest =
    ((text ≡ 92 ∷ rest) × (byte ≡ 92))
    ⊎ ((text ≡ 110 ∷ rest) × (byte ≡ 10))
    ⊎ ((text ≡ 114 ∷ rest) × (byte ≡ 13))
    ⊎ ((digits : List ℕ) × (text ≡ 120 ∷ digits) × BeginsWithDigits digits byte rest)

-- The text begins with the byte, as it is or escaped by a backslash.
abbrev pub Begins : (text : List ℕ) (byte : ℕ) (rest : List ℕ) → Type 0
Begins text byte rest =
    ((text ≡ byte ∷ rest) × (byte ≢ 92))
    ⊎ ((behind : List ℕ) × (text ≡ 92 ∷ behind) × Escapes behind byte rest)

-- The text is the bytes, spelled one after the other.
abbrev pub Spells : (text bytes : List ℕ) → Type 0
Spells text [] = text ≡ []
Spells text (byte ∷ bytes) = (rest : List ℕ) × Begins text byte rest × Spells rest bytes
