use Rattle.std.proofs.Common.{◌+◌, List, ap, subst, sym, ◌∙◌, arith}
use Rattle.auto_core.specs.Automaton.{Automaton}
use Rattle.winner_session.specs.Game.{Game}
use Rattle.loser_session.specs.Defending.{DefencePick, HasMovesLeft, seen}
use Rattle.loser_session.specs.Unwon.{sets_into}
use Rattle.loser_session.proofs.Defending.{defence_sound, lent_few, lent_pick, lent_next}
use Rattle.loser_session.proofs.Matches.{two_left}
use Rattle.loser_session.proofs.UnwonTables.{table_is}
use Rattle.loser_session.proofs.defence.Defence.pick.Goals as goal

pub sets_into-sets-requires : goal.sets_into-sets-requires
sets_into-sets-requires c =
    let i = c.self.inside in
    let on = subst (λ (h : Game). HasMovesLeft (seen h)) (sym c.self.view_is) c.requires.left in
    let keeps = c.self.invariant.0 in
    let two = two_left (seen (record { solution = i.solved; frame = i.frame; position = i.position; ply = i.ply })) keeps.unwon on in
    let unwon = c.self.invariant.1 in
    let count = unwon.count_is in
    omega (arith, two, count)

pub invariant_of-aim : goal.invariant_of-aim
invariant_of-aim c =
    let i = c.self.inside in
    let g : Game = record { solution = i.solved; frame = i.frame; position = i.position; ply = i.ply } in
    let is = table_is i.solved i.unwon.items i.ply (i.ply + 1) c.masks.result.now c.sets_into-sets.result.now c.new-table.result (omega arith) c.masks.ensures.masks (c.sets_into-sets.ensures ∙ ap (λ (p : List (List Automaton)). sets_into i.solved p (i.ply + 1)) c.as_slice.ensures.value) c.new-table.ensures in
    let on = subst (λ (h : Game). HasMovesLeft (seen h)) (sym c.self.view_is) c.requires.left in
    record {
      sound = defence_sound g c.self.invariant.0;
      next = lent_next g c.self.invariant.0 i.unwon.items c.self.invariant.1 on c.new-table.result is;
    }

pub first_move-requires : goal.first_move-requires
first_move-requires c =
    let i = c.self.inside in
    let g : Game = record { solution = i.solved; frame = i.frame; position = i.position; ply = i.ply } in
    let is = table_is i.solved i.unwon.items i.ply (i.ply + 1) c.masks.result.now c.sets_into-sets.result.now c.new-table.result (omega arith) c.masks.ensures.masks (c.sets_into-sets.ensures ∙ ap (λ (p : List (List Automaton)). sets_into i.solved p (i.ply + 1)) c.as_slice.ensures.value) c.new-table.ensures in
    let on = subst (λ (h : Game). HasMovesLeft (seen h)) (sym c.self.view_is) c.requires.left in
    record { few = lent_few g c.self.invariant.0 i.unwon.items c.self.invariant.1 on c.new-table.result is i.search c.self.invariant.2 }

pub returns-clause-pick : goal.returns-clause-pick
returns-clause-pick c =
    let i = c.self.inside in
    let is = table_is i.solved i.unwon.items i.ply (i.ply + 1) c.masks.result.now c.sets_into-sets.result.now c.new-table.result (omega arith) c.masks.ensures.masks (c.sets_into-sets.ensures ∙ ap (λ (p : List (List Automaton)). sets_into i.solved p (i.ply + 1)) c.as_slice.ensures.value) c.new-table.ensures in
    let on = subst (λ (h : Game). HasMovesLeft (seen h)) (sym c.self.view_is) c.requires.left in
    subst (λ (h : Game). DefencePick (seen h) c.first_move.result) c.self.view_is
    (lent_pick (record { solution = i.solved; frame = i.frame; position = i.position; ply = i.ply }) c.self.invariant.0 i.unwon.items c.self.invariant.1 on c.new-table.result is c.first_move.result c.first_move.ensures.pick)
