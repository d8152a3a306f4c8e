use Rattle.std.proofs.Common.{◌+◌, List, ap, subst, sym, ◌∙◌, arith}
use Rattle.auto_core.specs.Automaton.{Automaton}
use Rattle.game_rules.specs.Game.{HasMove}
use Rattle.winner_session.specs.Game.{Game}
use Rattle.loser_session.specs.Defending.{CanDefend, HasMovesLeft, seen}
use Rattle.loser_session.specs.Unwon.{sets_into}
use Rattle.loser_session.proofs.Defending.{defence_sound, lent_few, lent_leads, lent_next, lent_nowhere, moves_of, none_moves}
use Rattle.loser_session.proofs.Matches.{two_left}
use Rattle.loser_session.proofs.UnwonTables.{table_is}
use Rattle.loser_session.proofs.defence.Defence.can_move.Goals as goal

pub sets_into-sets-requires : goal.sets_into-sets-requires
sets_into-sets-requires c =
    let i = c.self.inside in
    let on = subst (λ (h : Game). HasMovesLeft (seen h)) (sym c.self.view_is) c.requires in
    let keeps = c.self.invariant.0 in
    let two = two_left (seen (record { solution = i.solved; frame = i.frame; position = i.position; ply = i.ply })) keeps.unwon on in
    let unwon = c.self.invariant.1 in
    let count = unwon.count_is in
    omega (arith, two, count)

pub has_move_into-requires-clause-sound : goal.has_move_into-requires-clause-sound
has_move_into-requires-clause-sound c =
    let i = c.self.inside in
    defence_sound (record { solution = i.solved; frame = i.frame; position = i.position; ply = i.ply }) c.self.invariant.0

pub has_move_into-requires-clause-next : goal.has_move_into-requires-clause-next
has_move_into-requires-clause-next c =
    let i = c.self.inside in
    let is = table_is i.solved i.unwon.items i.ply (i.ply + 1) c.masks.result.now c.sets_into-sets.result.now c.new-table.result (omega arith) c.masks.ensures.masks (c.sets_into-sets.ensures ∙ ap (λ (p : List (List Automaton)). sets_into i.solved p (i.ply + 1)) c.as_slice.ensures.value) c.new-table.ensures in
    let on = subst (λ (h : Game). HasMovesLeft (seen h)) (sym c.self.view_is) c.requires in
    lent_next (record { solution = i.solved; frame = i.frame; position = i.position; ply = i.ply }) c.self.invariant.0 i.unwon.items c.self.invariant.1 on c.new-table.result is

pub has_move_into-requires-clause-few : goal.has_move_into-requires-clause-few
has_move_into-requires-clause-few c =
    let i = c.self.inside in
    let is = table_is i.solved i.unwon.items i.ply (i.ply + 1) c.masks.result.now c.sets_into-sets.result.now c.new-table.result (omega arith) c.masks.ensures.masks (c.sets_into-sets.ensures ∙ ap (λ (p : List (List Automaton)). sets_into i.solved p (i.ply + 1)) c.as_slice.ensures.value) c.new-table.ensures in
    let on = subst (λ (h : Game). HasMovesLeft (seen h)) (sym c.self.view_is) c.requires in
    lent_few (record { solution = i.solved; frame = i.frame; position = i.position; ply = i.ply }) c.self.invariant.0 i.unwon.items c.self.invariant.1 on c.new-table.result is i.search c.self.invariant.2

pub returns-clause-some : goal.returns-clause-some
returns-clause-some c = λ e.
    let i = c.self.inside in
    subst (λ (h : Game). HasMove h.position) c.self.view_is (moves_of i.position (c.has_move_into.ensures.some e))

pub returns-clause-defends : goal.returns-clause-defends
returns-clause-defends c = λ e turn.
    let i = c.self.inside in
    let is = table_is i.solved i.unwon.items i.ply (i.ply + 1) c.masks.result.now c.sets_into-sets.result.now c.new-table.result (omega arith) c.masks.ensures.masks (c.sets_into-sets.ensures ∙ ap (λ (p : List (List Automaton)). sets_into i.solved p (i.ply + 1)) c.as_slice.ensures.value) c.new-table.ensures in
    let on = subst (λ (h : Game). HasMovesLeft (seen h)) (sym c.self.view_is) c.requires in
    subst (λ (h : Game). CanDefend (seen h)) c.self.view_is
    (lent_leads (record { solution = i.solved; frame = i.frame; position = i.position; ply = i.ply }) c.self.invariant.0 i.unwon.items c.self.invariant.1 on c.new-table.result is (c.has_move_into.ensures.some e))

pub returns-clause-none : goal.returns-clause-none
returns-clause-none c = λ e.
    let i = c.self.inside in
    let is = table_is i.solved i.unwon.items i.ply (i.ply + 1) c.masks.result.now c.sets_into-sets.result.now c.new-table.result (omega arith) c.masks.ensures.masks (c.sets_into-sets.ensures ∙ ap (λ (p : List (List Automaton)). sets_into i.solved p (i.ply + 1)) c.as_slice.ensures.value) c.new-table.ensures in
    let on = subst (λ (h : Game). HasMovesLeft (seen h)) (sym c.self.view_is) c.requires in
    let nowhere = lent_nowhere (record { solution = i.solved; frame = i.frame; position = i.position; ply = i.ply }) c.self.invariant.0 i.unwon.items c.self.invariant.1 on c.new-table.result is (c.has_move_into.ensures.none e) in
    subst (λ (h : Game). HasMove h.position → ⊥) c.self.view_is (none_moves (record { solution = i.solved; frame = i.frame; position = i.position; ply = i.ply }) c.self.invariant.0 on nowhere)
