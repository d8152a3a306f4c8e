use Rattle.std.proofs.Common.{arith, below_more, refl}
use Rattle.game_rules.specs.declared.men.Ray.{Ray}
use Rattle.chess_game.specs.Check.{AnswersAlong}
use Rattle.chess_game.proofs.AnswerBounds.{no_ray, some_ray}
use Rattle.chess_game.proofs.answers.answers_along_one.Goals as goal

pub returns-then-answers_along_nth : goal.returns-then-answers_along_nth
returns-then-answers_along_nth c =
    let Goes : Ray → Type 0 = AnswersAlong c.args.board.now c.args.check c.args.standing in
    (λ t. some_ray c.args.man.now.kind c.args.man.now.side c.loop-index.index Goes (c.answers_along_nth.ensures.0 c.if-answers_along_nth.true), λ any. refl)

pub loop-index-preserved : goal.loop-index-preserved
loop-index-preserved c =
    below_more _ _ c.loop-index.invariant (λ h. let t = c.answers_along_nth.ensures.1 h in cc)

pub returns : goal.returns
returns c =
    let Goes : Ray → Type 0 = AnswersAlong c.args.board.now c.args.check c.args.standing in (
      λ t. absurd (cc),
      λ any. absurd (no_ray c.args.man.now.kind c.args.man.now.side Goes (λ n low. c.loop-index.invariant n (omega (arith, low, c.loop-index-test.false))) any),
    )
