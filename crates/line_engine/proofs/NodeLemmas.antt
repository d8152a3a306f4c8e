-- The variables of distances, one after the other, and the masks of men.
use Rattle.std.proofs.Common.{◌≡◌, ℕ, zero, suc, ◌+◌, ◌^◌, ◌<◌, ◌≤◌, List, [], ◌∷◌, ◌++◌, length, Option, Some, None, sym, ap, ◌∙◌, arith}
use Rattle.std.proofs.Math.Pow.{pow_mono}
use Rattle.game_rules.specs.declared.men.Man.{Man}
use Rattle.game_rules.specs.declared.men.Square.{Square}
use Rattle.mask_sets.specs.Stock.{live_bit, mask_of_men}
use Rattle.mask_sets.proofs.Masks.{mask_small}
use Rattle.rule_formula.specs.Seats.{var}
use Rattle.line_plan.specs.Plan.{distances, distances_from}

from-last : (k n : ℕ) → distances_from k (suc n) ≡ distances_from k n ++ var (k + n) ∷ []
from-last k zero = ap (λ m. var m ∷ []) (let here : k ≡ k + 0 = omega arith in here)
from-last k (suc n) =
    ap (λ xs. var k ∷ xs) (from-last (suc k) n)
    ∙ ap (λ m. var k ∷ (distances_from (suc k) n ++ var m ∷ [])) (let there : suc k + n ≡ k + suc n = omega arith in there)

-- those before, and one more
pub distances-more : (n : ℕ) → distances n ++ var n ∷ [] ≡ distances (n + 1)
distances-more n =
    sym (ap (λ m. distances_from 0 n ++ var m ∷ []) (let none : 0 + n ≡ n = omega arith in none))
    ∙ sym (from-last 0 n) ∙ ap (λ m. distances_from 0 m) (let next : suc n ≡ n + 1 = omega arith in next)

pub ruleset distance_lists = (distances-more)

-- the mask of all men but one is half as large as a mask may be
pub mask_half : (men : List Man) → length men ≤ 31 → mask_of_men men < 2 ^ 31
mask_half men few =
    let small = mask_small men in
    let power : 2 ^ length men ≤ 2 ^ 31 = pow_mono few in omega (arith, small, power)

pub bit_small : (z : Option Square) → live_bit z ≤ 1
bit_small None = omega arith
bit_small (Some z) = omega arith

pub ruleset masks = (mask_half, bit_small)
