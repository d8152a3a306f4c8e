use Rattle.winner_session.proofs.Games.{held_reply}
use Rattle.winner_session.proofs.session.Session.other_move.Goals as goal

pub make-requires : goal.make-requires
make-requires c =
    let game = c.position-position.ensures.game in
    λ q legal. held_reply c.args.self.now game c.requires.turn legal
