use Rattle.std.proofs.Common.{rules, ◌≤◌, suc, Some, None, refl, ap, subst}
use Rattle.move_choice.specs.Choice.{target}
use Rattle.winning_sets.proofs.ValidLemmas.{valid_few}
use Rattle.play_loop.specs.Turns.{IsMadeBy}
use Rattle.winner_session.specs.Game.{choice_of}
use Rattle.winner_session.proofs.Movers.{mover_number}
use Rattle.winner_player.specs.Playable.{pick_told}
use Rattle.winner_player.specs.WinnerRules.{HeldPick, Match, seen, winner_rules}
use Rattle.winner_player.proofs.winner.WinnerPlayer.pick.Goals as goal

pub returns-in_default-clause-none : goal.returns-in_default-clause-none
returns-in_default-clause-none c =
    subst (λ (m : Match). HeldPick m None) c.self.view_is ((pick_told c.self.inside.session None).0 c.in_default.ensures.wide)

pub returns-clause-typable : goal.returns-clause-typable
returns-clause-typable c =
    let g = c.self.inside.session in
    let game = c.position-position.ensures.game in
    let mv = c.in-Ok.played.mv in
    let legal = c.in-Ok.ensures.picked.legal in
    let number : (1 ≤ mv.man) × (mv.man ≤ 8) =
    mover_number g.solution.position (suc g.ply) (valid_few g.solution game.valid) (g.position, game.reached, (mv.man, target mv, legal)) legal in
    record { first = number.0; last = number.1; right = search rules; up = search rules }

pub returns-clause-made : goal.returns-clause-made
returns-clause-made c =
    let g = c.self.inside.session in
    let mv = c.in-Ok.played.mv in
    let choice = choice_of c.in-Ok.played in
    let picked = c.in-Ok.ensures.picked in
    subst (λ (m : Match). IsMadeBy winner_rules m mv (seen c.win_move.new.self)) c.self.view_is
    (choice, refl, (pick_told g (Some choice)).0 picked.pick, picked.legal, ap seen picked.is_after)
