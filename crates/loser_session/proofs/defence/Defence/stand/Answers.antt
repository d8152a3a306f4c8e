use Rattle.std.proofs.Common.{subst}
use Rattle.winner_session.specs.Game.{Game}
use Rattle.loser_session.specs.Defending.{seen, StandsAs}
use Rattle.loser_session.proofs.defence.Defence.stand.Goals as goal

pub returns-clause-stands : goal.returns-clause-stands
returns-clause-stands c = subst (λ (h : Game). StandsAs (seen h) c.turn.result) c.can_move.ensures.kept c.turn.ensures
