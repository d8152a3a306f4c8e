use Rattle.std.proofs.Common.{subst}
use Rattle.loser_session.specs.Defending.{DefenceMatch}
use Rattle.loser_player.specs.LoserRules.{StandsFor}
use Rattle.loser_player.proofs.player.LoserPlayer.stand.Goals as goal

pub returns-clause-stands : goal.returns-clause-stands
returns-clause-stands c =
    subst (λ (m : DefenceMatch). StandsFor m c.standing_of.result) c.self.view_is (c.stand.result, c.standing_of.ensures, c.stand.ensures.stands)
