-- Signed numbers of so many bits.
use Rattle.std.proofs.Common.{◌≡◌, ◌<◌, ◌≤◌, ◌^◌, ℤ, pos, negsuc, ◌≤ℤ◌, FitsSigned, to_z, of_z, sym, ap, ◌∙◌, arith}
use Rattle.std.specs.Prelude.{unsigned_abs}
use Rattle.std.specs.Int.{w8, w32, w64, w128}
use Rattle.std.specs.Int.Signed.{mag}
use Rattle.std.proofs.lemmas.Int.{ints, to_z-of_z}
use Rattle.track_word.specs.Atom.{IsBound}
use Rattle.arith_desk.specs.Words.{IsFactor}

-- what lies between two numbers of 32 bits has 64 bits
pub between_fits : (low n high : ℤ) → mag low < 2 ^ 31 → mag high < 2 ^ 31 → low ≤ℤ n → n ≤ℤ high → FitsSigned w64 n
between_fits low (pos k) (pos h) fl fh a b = omega (arith, ints, fh)
between_fits low (pos k) (negsuc h) fl fh a b = absurd (omega (arith, ints))
between_fits (pos l) (negsuc k) high fl fh a b = absurd (omega (arith, ints))
between_fits (negsuc l) (negsuc k) high fl fh a b = omega (arith, ints, fl)

pub factor_fits : (a : ℤ) → IsFactor a → FitsSigned w8 a
factor_fits (pos n) factor = omega (arith, ints, factor.2)
factor_fits (negsuc n) factor = omega (arith, ints, factor.1)

pub bound_fits : (b : ℤ) → IsBound b → FitsSigned w32 b
bound_fits (pos n) bound = omega (arith, ints, bound.1)
bound_fits (negsuc n) bound = omega (arith, ints, bound.0)

number_fits : (n : ℤ) → negsuc 63 ≤ℤ n → n ≤ℤ pos 64 → FitsSigned w32 n
number_fits (pos n) low high = omega (arith, ints, high)
number_fits (negsuc n) low high = omega (arith, ints, low)

-- a small number of 32 bits that are all 0 is 0
pub zero_of_bits : (n : ℤ) → negsuc 63 ≤ℤ n → n ≤ℤ pos 64 → of_z w32 n ≡ 0 → n ≡ pos 0
zero_of_bits n low high e = sym (to_z-of_z w32 n (number_fits n low high)) ∙ ap (λ bits. to_z w32 bits) e

pub wide_fits : (w : ℤ) → unsigned_abs w ≤ 2 ^ 64 → FitsSigned w128 w
wide_fits (pos n) h = omega (arith, ints, h)
wide_fits (negsuc n) h = omega (arith, ints, h)
