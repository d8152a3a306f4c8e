use Rattle.std.proofs.Common.{rules, ◌≤◌, suc, None, ap, subst}
use Rattle.game_rules.specs.Game.{Legal}
use Rattle.chess_game.specs.declared.moves.Move.{Move}
use Rattle.move_choice.specs.Choice.{target}
use Rattle.play_loop.specs.Turns.{IsMadeBy}
use Rattle.winner_session.proofs.Movers.{mover_number}
use Rattle.loser_session.specs.Defending.{DefenceMatch, DefencePick, seen}
use Rattle.loser_player.specs.LoserRules.{loser_rules}
use Rattle.loser_player.proofs.player.LoserPlayer.pick.Goals as goal

pub returns-in_default-clause-none : goal.returns-in_default-clause-none
returns-in_default-clause-none c = subst (λ (m : DefenceMatch). DefencePick m None) c.self.view_is c.in_default.ensures.wide

pub returns-clause-typable : goal.returns-clause-typable
returns-clause-typable c =
    let g = c.self.inside.defence in
    let keeps = c.position-position.ensures.defence in
    let mv = c.in-Ok.mv in
    let (choice, same, defended) = c.in-Ok.ensures.defended in
    let legal = subst (λ (m : Move). Legal g.position m.man (target m) c.answer.new.self.position) same defended.legal in
    let number : (1 ≤ mv.man) × (mv.man ≤ 8) =
    mover_number g.solution.position (suc g.ply) keeps.valid.few (g.position, keeps.unwon.reached, (mv.man, target mv, legal)) legal in
    record { first = number.0; last = number.1; right = search rules; up = search rules }

pub returns-clause-made : goal.returns-clause-made
returns-clause-made c =
    let g = c.self.inside.defence in
    let mv = c.in-Ok.mv in
    let (choice, same, defended) = c.in-Ok.ensures.defended in
    let legal = subst (λ (m : Move). Legal g.position m.man (target m) c.answer.new.self.position) same defended.legal in
    subst (λ (m : DefenceMatch). IsMadeBy loser_rules m mv (seen c.answer.new.self)) c.self.view_is
    (choice, same, defended.pick, legal, ap seen defended.is_after)
