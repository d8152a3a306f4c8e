use Rattle.std.proofs.Common.{◌≡◌, ◌+◌, subst, sym, arith}
use Rattle.winner_session.specs.Game.{Game, WinPick}
use Rattle.winner_session.proofs.Games.{game_sound, lent_few, lent_next, lent_pick, table_is}
use Rattle.winner_session.proofs.session.Session.pick.Goals as goal

pub invariant_of-aim : goal.invariant_of-aim
invariant_of-aim c =
    let i = c.self.inside in
    let g : Game = record { solution = i.solved; frame = i.frame; position = i.position; ply = i.ply } in
    let is = table_is i.solved i.ply (i.ply + 1) c.masks.result.now c.kept_sets.result.now c.new-sets.result (omega arith) c.masks.ensures.masks c.kept_sets.ensures.sets c.new-sets.ensures in
    let turn = subst (λ (h : Game). h.position.turn ≡ h.solution.winner) (sym c.self.view_is) c.requires in
    record { sound = game_sound g c.self.invariant.0; next = lent_next g c.self.invariant.0 c.new-sets.result is turn }

pub first_move-requires : goal.first_move-requires
first_move-requires c =
    let i = c.self.inside in
    let is = table_is i.solved i.ply (i.ply + 1) c.masks.result.now c.kept_sets.result.now c.new-sets.result (omega arith) c.masks.ensures.masks c.kept_sets.ensures.sets c.new-sets.ensures in
    record { few = lent_few (record { solution = i.solved; frame = i.frame; position = i.position; ply = i.ply }) c.self.invariant.0 c.new-sets.result is i.search c.self.invariant.1 }

pub returns-clause-pick : goal.returns-clause-pick
returns-clause-pick c =
    let i = c.self.inside in
    let is = table_is i.solved i.ply (i.ply + 1) c.masks.result.now c.kept_sets.result.now c.new-sets.result (omega arith) c.masks.ensures.masks c.kept_sets.ensures.sets c.new-sets.ensures in
    let turn = subst (λ (h : Game). h.position.turn ≡ h.solution.winner) (sym c.self.view_is) c.requires in
    subst (λ (h : Game). WinPick h c.first_move.result) c.self.view_is
    (lent_pick (record { solution = i.solved; frame = i.frame; position = i.position; ply = i.ply }) c.self.invariant.0 c.new-sets.result is turn c.first_move.result c.first_move.ensures.pick)
