-- The plies of the loser in a claim. Crates above cite these lemmas.
use Rattle.std.proofs.Common.{◌≡◌, ℕ, zero, suc, ◌+◌, ◌-◌, ◌*◌, ◌<◌, subst, arith}
use Rattle.std.specs.Prelude.{Contains}
use Rattle.game_rules.specs.Game.{Position, other}
use Rattle.game_rules.specs.declared.men.Side.{Side}
use Rattle.mate_plan.specs.PlanOf.{last_ply}
use Rattle.set_plan.proofs.Takings.{contains_head, contains_rest}
use Rattle.mate_plan.specs.Claim.{IsLosersPly, every_second, losers_plies}
use Rattle.mate_plan.specs.Turns.{plies_before_turn}
use Rattle.mate_plan.proofs.TurnLemmas.{waits_sum}

every_second-has : (start count k : ℕ) → k < count → Contains (every_second start count) (start + 2 * k)
every_second-has start zero k h = absurd (omega (arith, h))
every_second-has start (suc count) zero h =
    let e : start ≡ start + 2 * 0 = omega arith in
    subst (λ j. Contains (every_second start (suc count)) j) e (contains_head start (every_second (start + 2) count))
every_second-has start (suc count) (suc k) h =
    let e : start + 2 + 2 * k ≡ start + 2 * suc k = omega arith in
    let there = every_second-has (start + 2) count k (omega (arith, h)) in
    contains_rest start (every_second (start + 2) count) (start + 2 * suc k) (subst (λ j. Contains (every_second (start + 2) count) j) e there)

plies_at : (winner s : Side) (moves ply left : ℕ) → ply + (2 * left + 1) ≡ last_ply winner s moves → Contains (losers_plies winner s moves) ply
plies_at winner s moves ply left e =
    let first = plies_before_turn (other winner) s in
    let count = moves + plies_before_turn winner s in
    let one = waits_sum winner s in
    let at : first + 2 * (count - left - 1) ≡ ply = omega (arith, e, one) in
    subst (λ j. Contains (every_second first count) j) at (every_second-has first count (count - left - 1) (omega (arith, e, one)))

-- each ply of the loser is among the plies of the plan
pub plies-have : {winner : Side} {p : Position} {moves ply : ℕ} → IsLosersPly winner p moves ply → Contains (losers_plies winner p.turn moves) ply
plies-have {winner} {p} {moves} {ply} h = plies_at winner p.turn moves ply h.left h.before
