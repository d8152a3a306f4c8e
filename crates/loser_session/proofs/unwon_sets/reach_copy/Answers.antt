use Rattle.std.proofs.Common.{sym, ap, ◌∙◌}
use Rattle.std.specs.Prelude.{option_copied}
use Rattle.winning_sets.proofs.ValidLemmas.{plan_valid}
use Rattle.loser_session.proofs.UnwonParts.{reach_found}
use Rattle.loser_session.proofs.unwon_sets.reach_copy.Goals as goal

pub unreachable-requires : goal.unreachable-requires
unreachable-requires c =
    let s = c.args.solved.now in
    reach_found s (plan_valid s c.reach.ensures.valid c.requires.plan) c.args.ply c.args.mask c.requires.game c.requires.before
    (sym c.reach.ensures.set ∙ ap option_copied c.in-None.is)
