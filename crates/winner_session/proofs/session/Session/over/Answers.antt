use Rattle.winner_session.proofs.Games.{game_sound}
use Rattle.winner_session.proofs.session.Session.over.Goals as goal

pub mated-requires : goal.mated-requires
mated-requires c =
    let i = c.self.inside in
    game_sound (record { solution = i.solved; frame = i.frame; position = i.position; ply = i.ply }) c.self.invariant.0
