use Rattle.std.proofs.Common.{◌≡◌, subst, sym}
use Rattle.game_rules.specs.Game.{Legal, Position}
use Rattle.move_choice.specs.Choice.{target}
use Rattle.winner_session.specs.Game.{Game, IsGame, moved_to}
use Rattle.winner_session.proofs.Games.{held_pick, lost_picked}
use Rattle.winner_session.proofs.session.Session.win_move.Goals as goal

pub make-requires : goal.make-requires
make-requires c =
    let game = c.position-position.ensures.game in
    let choice = c.in-Some.choice in
    subst (λ (h : Game). (q : Position) → Legal h.position choice.mv.man (target choice.mv) q → IsGame (moved_to h q)) (sym c.pick.ensures.kept)
    (λ q legal. held_pick c.args.self.now game c.requires.turn choice c.in-Some.ensures.pick legal)

pub unreachable-requires : goal.unreachable-requires
unreachable-requires c =
    let choice = c.in-Some.choice in
    let none = subst (λ (h : Game). (q : Position) → Legal h.position choice.mv.man (target choice.mv) q → ⊥) c.pick.ensures.kept c.in-Err.ensures.illegal in
    none c.in-Some.ensures.pick.position c.in-Some.ensures.pick.leads.legal

pub returns-clause-lost : goal.returns-clause-lost
returns-clause-lost c =
    let game = c.position-position.ensures.game in
    let choice = c.in-Some.choice in
    let after = c.make.new.self in
    let legal = subst (λ (h : Game). Legal h.position choice.mv.man (target choice.mv) after.position) c.pick.ensures.kept c.in-Ok.ensures.legal in
    let is = subst (λ (h : Game). after ≡ moved_to h after.position) c.pick.ensures.kept c.in-Ok.ensures.after in
    lost_picked after choice game c.requires.turn c.in-Some.ensures.pick legal is
