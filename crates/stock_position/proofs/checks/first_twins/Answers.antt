use Rattle.std.proofs.Common.{ℕ, ◌<◌, arith, below_more}
use Rattle.chess_game.specs.Unsoundness.{AreTwins}
use Rattle.chess_game.proofs.UnsoundnessLemmas.{within}
use Rattle.stock_position.proofs.checks.first_twins.Goals as goal

pub loop-i-preserved : goal.loop-i-preserved
loop-i-preserved c =
    λ j k below lt twins. below_more (λ j. (k : ℕ) → j < k → AreTwins c.args.p.now j k → ⊥) c.loop-i.i
    (λ j h k. c.loop-i.invariant j k h) c.in_default.ensures.none j below k lt twins

pub returns-clause-none : goal.returns-clause-none
returns-clause-none c =
    λ i k lt twins. c.loop-i.invariant i k (omega (arith, within c.args.p.now i _ twins.1)) lt twins
