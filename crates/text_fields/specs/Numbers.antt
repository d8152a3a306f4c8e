-- Numbers in decimal spelling.
use Rattle.std.specs.Prelude.{◌≡◌, ℕ, List, ℤ, FitsSigned}
use Rattle.std.specs.Int.{w64}
use Rattle.std.specs.Fmt.{signed_decimal}

-- the text is the only spelling of a number of 64 bits: no plus, no leading zero, and no minus before zero
pub record IsNumber (text : List ℕ) : Type 0 where
  pub number : ℤ
  pub fits : FitsSigned w64 number
  pub spelled : text ≡ signed_decimal number
