use Rattle.std.proofs.Common.{◌∙◌, sym}
use Rattle.chess_game.proofs.MatedLemmas.{answers_at}
use Rattle.chess_game.proofs.answers.has_answer.Goals as goal

pub returns-in-Some-square : goal.returns-in-Some-square
returns-in-Some-square c =
    let same =
    answers_at c.args.board.now c.args.check.from c.args.check.king c.args.number c.in-Some.man c.in-Some-square.square
    (sym c.man.ensures ∙ c.in-Some.is) (sym c.square.ensures.square ∙ c.in-Some-square.is) in
    (λ t. same.1 (c.answers_along_one.ensures.0 t), λ h. c.answers_along_one.ensures.1 (same.0 h))
