-- Pairs of fields in a line, and pairs of numbers.
use Rattle.std.specs.Prelude.{◌≡◌, ◌≢◌, ◌⊎◌, ℕ, List, [], ◌∷◌, ◌++◌, ℤ}
use Rattle.std.specs.Fmt.{signed_decimal}
use Rattle.text_fields.specs.Blanks.{HasNoBlank}
use Rattle.text_fields.specs.Numbers.{IsNumber}
use Rattle.chess_text.specs.declared.fields.PairWhy.{PairWhy}
use Rattle.chess_text.specs.declared.fields.PairWhy.TheVariants.{Shape, Number}

-- a field has at least one byte and no blank
pub record IsField (text : List ℕ) : Type 0 where
  pub some : text ≢ []
  pub no_blank : HasNoBlank text

-- two fields, with one blank between them
abbrev pub two_fields : List ℕ → List ℕ → List ℕ
two_fields first second = first ++ 32 ∷ second

-- two numbers, with one blank between them
abbrev pub pair_text : ℤ → ℤ → List ℕ
pair_text x y = two_fields (signed_decimal x) (signed_decimal y)

-- the text has the shape of two fields with one blank between them
pub record HasTwoFields (text : List ℕ) : Type 0 where
  pub first : List ℕ
  pub second : List ℕ
  pub is_first : IsField first
  pub is_second : IsField second
  pub joined : text ≡ two_fields first second

-- the text has the shape of two fields, and one of them lacks the property
pub record HasOtherField (Is : List ℕ → Type 0) (text : List ℕ) : Type 0 where
  pub first : List ℕ
  pub second : List ℕ
  pub is_first : IsField first
  pub is_second : IsField second
  pub joined : text ≡ two_fields first second
  pub other : (Is first → ⊥) ⊎ (Is second → ⊥)

-- the text has the shape of two fields, and one of them is not a number
abbrev pub HasNoNumber : List ℕ → Type 0
HasNoNumber text = HasOtherField IsNumber text

-- this is the first reason why the text is not a pair of numbers
abbrev pub IsPairRefusal : List ℕ → PairWhy → Type 0
IsPairRefusal text Shape = HasTwoFields text → ⊥
IsPairRefusal text Number = HasNoNumber text
