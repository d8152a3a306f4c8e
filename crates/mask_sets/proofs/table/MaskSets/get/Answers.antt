use Rattle.std.proofs.Common.{ap, sym, ◌∙◌}
use Rattle.mask_sets.specs.Sets.{set_at}
use Rattle.mask_sets.proofs.Lookups.{set_of-none, set_of-place}
use Rattle.mask_sets.proofs.table.MaskSets.get.Goals as goal

pub returns-in-Some : goal.returns-in-Some
returns-in-Some c =
    let i = c.self.inside in
    let place = c.in-Some.ensures in
    c.set_in.ensures
    ∙ (sym (set_of-place i.masks.now i.sets.now c.args.mask c.in-Some.k place.within place.found place.before) ∙ ap (λ t. set_at t c.args.mask) c.self.view_is)

pub returns-in-None : goal.returns-in-None
returns-in-None c =
    let i = c.self.inside in
    sym (set_of-none i.masks.now i.sets.now c.args.mask c.in-None.ensures.none) ∙ ap (λ t. set_at t c.args.mask) c.self.view_is
