use Rattle.std.proofs.Common.{[], sym, ◌∙◌}
use Rattle.std.proofs.lemmas.List.{get_or_default}
use Rattle.loser_session.proofs.SetsInto.{losers_sets, winners_sets}
use Rattle.loser_session.proofs.plies.sets_into.Goals as goal

pub returns-then-is_winners : goal.returns-then-is_winners
returns-then-is_winners c =
    c.as_slice.ensures ∙ (c.index-plies-ply.is ∙ (get_or_default c.args.plies.now c.args.ply _ [] c.requires
    ∙ sym (winners_sets c.args.solved.now c.args.plies.now c.args.ply (c.is_winners.ensures.his c.if-is_winners.true))))

pub returns-else-is_winners : goal.returns-else-is_winners
returns-else-is_winners c =
    c.reached_sets.ensures.sets ∙ sym (losers_sets c.args.solved.now c.args.plies.now c.args.ply (c.is_winners.ensures.not_his c.if-is_winners.false))
