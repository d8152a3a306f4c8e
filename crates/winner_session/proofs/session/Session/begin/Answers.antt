use Rattle.std.proofs.Common.{sym, subst, arith}
use Rattle.game_rules.specs.Game.{Position}
use Rattle.winner_session.specs.Game.{IsGame}
use Rattle.winner_session.proofs.Games.{first_game}
use Rattle.winner_session.proofs.session.Session.begin.Goals as goal

pub invariant_of-result : goal.invariant_of-result
invariant_of-result c = (
  subst (λ (p : Position). IsGame (record { solution = c.args.solved; frame = c.args.frame; position = p; ply = 0 })) (sym c.position-position.ensures)
      (first_game c.args.solved c.args.frame c.masks-masks.ensures.valid c.requires),
  λ ply mask a is.
      let most = c.most_states.ensures.most.within ply mask a is in
      let same = c.in-Ok.ensures in
      omega (arith, most, same),
)
