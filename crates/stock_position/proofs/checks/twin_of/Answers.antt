use Rattle.std.proofs.Common.{◌<◌, arith, below_more}
use Rattle.chess_game.specs.Unsoundness.{AreTwins}
use Rattle.stock_position.proofs.Men.{twins_within}
use Rattle.stock_position.proofs.checks.twin_of.Goals as goal

pub loop-i-preserved : goal.loop-i-preserved
loop-i-preserved c =
    let p = c.args.p.now in
    let none : AreTwins p c.args.number c.loop-i.i → ⊥ = λ t. let yes = c.are_twins.ensures.1 t in let no = c.if-are_twins.false in cc in
    λ k lt below twins. below_more (λ k. c.args.number < k → AreTwins p c.args.number k → ⊥) c.loop-i.i
    (λ j h above. c.loop-i.invariant j above h) (λ above t. none t) k below lt twins

pub returns-clause-none : goal.returns-clause-none
returns-clause-none c =
    λ k lt twins. c.loop-i.invariant k lt
    (omega (arith, (twins_within c.args.p.now c.args.number k twins).3, c.loop-i-test.false, c.count.ensures.count)) twins
