-- Lemmas on the bits of letters. Other crates cite them.
use Rattle.std.proofs.Common.{◌≡◌, ◌⊎◌, ℕ, ◌+◌, ◌*◌, ◌/◌, ◌%◌, ◌^◌, ◌<◌, arith, ap, ◌∙◌}
use Rattle.std.specs.Int.{bit_at}
use Rattle.std.proofs.lemmas.Grind.{common_steps}
use Rattle.std.proofs.lemmas.Nat.Bits.{bit_at-lt, bit_at_cat_low}

pub bit_cases : (letter track : ℕ) → (bit_at letter track ≡ 0) ⊎ (bit_at letter track ≡ 1)
bit_cases letter track = let l = bit_at-lt letter track in grind (arith, common_steps, l)

-- the bits below a place are those of the rest
pub low_bits : (letter bound k : ℕ) → k < bound → bit_at letter k ≡ bit_at (letter % 2 ^ bound) k
low_bits letter bound k below =
    let whole : letter ≡ letter / 2 ^ bound * 2 ^ bound + letter % 2 ^ bound = grind (arith, common_steps) in
    ap (λ n. bit_at n k) whole ∙ bit_at_cat_low (letter / 2 ^ bound) bound (letter % 2 ^ bound) k below

-- a letter of its lowest bit and the others
pub half : (bit others : ℕ) → bit < 2 → (bit + 2 * others) / 2 ≡ others
half bit others h = omega (arith, h)

pub lowest : (bit others : ℕ) → bit < 2 → (bit + 2 * others) % 2 ≡ bit
lowest bit others h = omega (arith, h)
