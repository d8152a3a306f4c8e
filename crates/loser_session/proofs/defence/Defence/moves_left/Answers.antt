use Rattle.std.proofs.Common.{◌≡◌, ◌+◌, ◌-◌, ◌/◌, subst}
use Rattle.winner_session.specs.Game.{Game, made_in}
use Rattle.winner_session.proofs.Games.{left_made}
use Rattle.loser_session.proofs.defence.Defence.moves_left.Goals as goal

pub returns : goal.returns
returns c =
    let i = c.self.inside in
    let keeps = c.self.invariant.0 in
    subst (λ (h : Game). (c.last_ply.result - i.ply) / 2 + made_in h ≡ h.solution.moves) c.self.view_is
    (rw c.last_ply.ensures
    (left_made i.solved.winner i.solved.position.turn i.solved.moves i.ply keeps.unwon.within))
