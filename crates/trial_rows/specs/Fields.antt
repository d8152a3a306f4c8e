-- The fields of a row, separated by one space each.
use Rattle.std.specs.Prelude.{◌≡◌, ◌≢◌, ℕ, ◌<◌, List, ◌∷◌, ◌++◌, length, slice_index, Option, MatchOption}

-- the text up to the first space is the next field, and the text after that space is left; without a space nothing is
-- left
pub record IsNextField (text field : List ℕ) (left : Option (List ℕ)) : Type 0 where
  pub plain : (i : ℕ) → i < length field → slice_index field i ≢ 32
  pub parts : MatchOption left (text ≡ field) (λ rest. text ≡ field ++ (32 ∷ rest))
