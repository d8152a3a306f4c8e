use Rattle.std.proofs.Common.{OnErr, subst}
use Rattle.game_rules.specs.Game.{Legal, Position}
use Rattle.move_choice.specs.Choice.{target}
use Rattle.winner_player.specs.WinnerRules.{Match}
use Rattle.winner_player.proofs.winner.WinnerPlayer.typed.Goals as goal

pub returns-clause-illegal : goal.returns-clause-illegal
returns-clause-illegal c =
    subst (λ (m : Match). OnErr c.other_move.result ((q : Position) → Legal m.position c.args.mv.man (target c.args.mv) q → ⊥)) c.self.view_is
    c.other_move.ensures.illegal
