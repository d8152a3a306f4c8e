use Rattle.std.proofs.Common.{◌≡◌, ◌+◌, ℕ, suc, subst, sym, arith}
use Rattle.game_rules.specs.Game.{Legal, Position}
use Rattle.chess_game.specs.Refusal.{IsRefusal}
use Rattle.move_choice.specs.Choice.{target}
use Rattle.winner_session.specs.Game.{Game, IsGame, moved_to}
use Rattle.winner_session.proofs.Games.{game_sound}
use Rattle.winner_session.proofs.session.Session.make.Goals as goal

pub try_move-requires : goal.try_move-requires
try_move-requires c =
    let i = c.self.inside in
    game_sound (record { solution = i.solved; frame = i.frame; position = i.position; ply = i.ply }) c.self.invariant.0

pub invariant_of-self : goal.invariant_of-self
invariant_of-self c =
    let i = c.self.inside in
    let keeps = subst (λ (h : Game). (q : Position) → Legal h.position c.args.mv.man (target c.args.mv) q → IsGame (moved_to h q)) (sym c.self.view_is) c.requires in
    let next : suc i.ply ≡ i.ply + 1 = omega arith in (
      subst (λ (n : ℕ). IsGame (record { solution = i.solved; frame = i.frame; position = c.in-Ok.after; ply = n })) next (keeps c.in-Ok.after c.in-Ok.ensures.legal),
      c.self.invariant.1,
    )

pub returns-in-Err-clause-reason : goal.returns-in-Err-clause-reason
returns-in-Err-clause-reason c =
    subst (λ (h : Game). IsRefusal h.position c.args.mv.man (target c.args.mv) c.in-Err.reason) c.self.view_is c.in-Err.ensures.reason

pub returns-in-Err-clause-illegal : goal.returns-in-Err-clause-illegal
returns-in-Err-clause-illegal c =
    subst (λ (h : Game). (q : Position) → Legal h.position c.args.mv.man (target c.args.mv) q → ⊥) c.self.view_is c.in-Err.ensures.illegal
