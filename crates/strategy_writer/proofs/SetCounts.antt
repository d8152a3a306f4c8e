-- A claim has few sets.
use Rattle.std.proofs.Common.{◌≡◌, ℕ, zero, suc, ◌+◌, ◌^◌, ◌≤◌, map, length, refl, ap, arith}
use Rattle.std.proofs.lemmas.List.{length-map}
use Rattle.std.proofs.Math.Pow.{pow_mono}
use Rattle.game_rules.specs.Game.{Position, other}
use Rattle.game_rules.specs.declared.men.Side.{Side}
use Rattle.rule_formula.specs.Fits.{is_game_mask, masks_of, masks_to}
use Rattle.mask_sets.specs.Stock.{mask_of}
use Rattle.mask_sets.proofs.Masks.{mask_small}
use Rattle.mate_plan.specs.Claim.{every_second, losers_plies}
use Rattle.mate_plan.specs.Turns.{plies_before_turn}
use Rattle.mate_plan.proofs.Counts.{flat_few, if_few}
use Rattle.mate_plan.proofs.TurnLemmas.{waits_sum}
use Rattle.strategy_file.specs.StrategyFile.{places_of}

masks_to_few : (p : Position) (n : ℕ) → length (masks_to p n) ≤ n
masks_to_few p zero = omega arith
masks_to_few p (suc n) = let rest = if_few (is_game_mask p n) (masks_to p n) n n (masks_to_few p n) in omega (arith, rest)

masks_few : (p : Position) → length p.men ≤ 8 → length (masks_of p) ≤ 256
masks_few p few =
    let count = masks_to_few p (mask_of p + 1) in
    let low = mask_small p.men in
    let high : 2 ^ length p.men ≤ 2 ^ 8 = pow_mono few in
    omega (arith, count, low, high)

every_second_length : (ply count : ℕ) → length (every_second ply count) ≡ count
every_second_length ply zero = refl
every_second_length ply (suc count) = ap suc (every_second_length (ply + 2) count)

plies_few : (winner turn : Side) (moves : ℕ) → moves ≤ 20 → length (losers_plies winner turn moves) ≤ 21
plies_few winner turn moves few =
    let size = every_second_length (plies_before_turn (other winner) turn) (moves + plies_before_turn winner turn) in
    let one = waits_sum winner turn in
    omega (arith, size, one, few)

pub places_few : (winner : Side) (p : Position) (moves : ℕ) → length p.men ≤ 8 → moves ≤ 20 → length (places_of winner p moves) ≤ 2 ^ 16
places_few winner p moves men few =
    let plies = losers_plies winner p.turn moves in
    let masks = masks_few p men in
    let all = flat_few {B = ℕ × ℕ} (λ ply. map (λ mask. (ply, mask)) (masks_of p)) 256 plies (λ ply. let size = length-map {B = ℕ × ℕ} (masks_of p) (λ mask. (ply, mask)) in omega (arith, size, masks)) in
    let count = plies_few winner p.turn moves few in
    omega (arith, all, count)
