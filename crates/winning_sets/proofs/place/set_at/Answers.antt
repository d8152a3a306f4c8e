use Rattle.std.proofs.Common.{ap, ◌∙◌}
use Rattle.mask_sets.specs.Sets.{set_at, set_of}
use Rattle.winning_sets.proofs.Places.{sets_at-ply}
use Rattle.winning_sets.proofs.place.set_at.Goals as goal

pub returns : goal.returns
returns c =
    c.get.ensures
    ∙ (ap (λ t. set_at t c.args.mask) c.new.ensures
    ∙ (ap (λ l. set_of c.args.masks.now l c.args.mask) c.sets_of_ply.ensures ∙ sets_at-ply c.args.masks.now c.args.plies.now c.args.ply c.args.mask))
