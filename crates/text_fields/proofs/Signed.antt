-- Signed numbers of 64 bits, and their spelling. Crates above cite these lemmas.
use Rattle.std.proofs.Common.{◌≡◌, ◌<◌, ◌^◌, ℤ, pos, negsuc, FitsSigned, arith}
use Rattle.std.specs.Int.{w64}
use Rattle.std.specs.Int.Signed.{mag}
use Rattle.std.specs.Fmt.{signed_decimal}
use Rattle.std.proofs.lemmas.Fmt.{signed_decimal_injective}

pub small : (z : ℤ) → FitsSigned w64 z → mag z < 2 ^ 63
small (pos n) fits = omega (arith, fits)
small (negsuc n) fits = omega (arith, fits)

-- one spelling is that of one number
pub same_number : (y z : ℤ) → FitsSigned w64 y → FitsSigned w64 z → signed_decimal y ≡ signed_decimal z → y ≡ z
same_number y z fy fz same = signed_decimal_injective y z (small y fy) (small z fz) same
