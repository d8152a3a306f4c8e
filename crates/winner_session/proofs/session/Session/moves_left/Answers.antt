use Rattle.std.proofs.Common.{◌≡◌, ◌+◌, ◌-◌, ◌/◌, subst}
use Rattle.winner_session.specs.Game.{Game, made_in}
use Rattle.winner_session.proofs.Games.{game_within, left_made}
use Rattle.winner_session.proofs.session.Session.moves_left.Goals as goal

pub returns : goal.returns
returns c =
    let i = c.self.inside in
    subst (λ (h : Game). (c.last_ply.result - i.ply) / 2 + made_in h ≡ h.solution.moves) c.self.view_is
    (rw c.last_ply.ensures
    (left_made i.solved.winner i.solved.position.turn i.solved.moves i.ply
    (game_within (record { solution = i.solved; frame = i.frame; position = i.position; ply = i.ply }) c.self.invariant.0)))
