use Rattle.std.proofs.Common.{OnErr, subst}
use Rattle.game_rules.specs.Game.{Legal, Position}
use Rattle.move_choice.specs.Choice.{target}
use Rattle.loser_session.specs.Defending.{DefenceMatch}
use Rattle.loser_player.proofs.player.LoserPlayer.typed.Goals as goal

pub returns-clause-illegal : goal.returns-clause-illegal
returns-clause-illegal c =
    subst (λ (m : DefenceMatch). OnErr c.typed.result ((q : Position) → Legal m.position c.args.mv.man (target c.args.mv) q → ⊥)) c.self.view_is
    c.typed.ensures.illegal
