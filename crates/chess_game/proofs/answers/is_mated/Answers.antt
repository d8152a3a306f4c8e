use Rattle.game_laws.specs.Answer.{IsCheckFrom}
use Rattle.game_laws.proofs.AnswerLemmas.{mate_by_rays}
use Rattle.chess_game.specs.Check.{IsCloseCheck}
use Rattle.chess_game.proofs.answers.is_mated.Goals as goal

pub returns-in-Some : goal.returns-in-Some
returns-in-Some c =
    let check : IsCloseCheck c.in-Some.check × IsCheckFrom c.args.board.now c.in-Some.check.from c.in-Some.check.king = c.in-Some.ensures in
    let mate = mate_by_rays c.args.board.now c.in-Some.check.from c.in-Some.check.king check.1 c.requires.sound in
    (λ t. mate.1 (c.is_unanswered.ensures.0 t), λ h. c.is_unanswered.ensures.1 (mate.0 h))
