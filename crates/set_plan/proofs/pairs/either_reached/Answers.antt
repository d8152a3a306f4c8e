use Rattle.std.proofs.Common.{arith, refl}
use Rattle.auto_bool.specs.declared.connective.Connective.TheVariants as connective
use Rattle.set_plan.proofs.BothSets.{both-exceeds, both-is, both-reached, few-tracks}
use Rattle.set_plan.proofs.pairs.either_reached.Goals as goal

pub merged_product_within-requires : goal.merged_product_within-requires
merged_product_within-requires c = record {
  tracks = few-tracks c.args.tracks.now c.args.a.now c.args.b.now c.requires.first.decides c.requires.second.decides c.tracks.ensures.valid.ascending c.tracks.ensures.valid.few_tracks;
}

pub returns-in-Ok-clause-ok : goal.returns-in-Ok-clause-ok
returns-in-Ok-clause-ok c =
    both-is c.args.tracks.now c.args.a.now c.args.b.now c.requires.first.decides c.requires.second.decides c.tracks.ensures.valid.ascending connective.Or c.in-Ok.c
    c.in-Ok.c c.in-Ok.ensures.tracks c.in-Ok.ensures.words refl (λ word is. (λ h. h, λ h. h))

pub returns-in-Ok-clause-set : goal.returns-in-Ok-clause-set
returns-in-Ok-clause-set c =
    let most = (rw c.states.ensures.is at c.states.ensures.within).1 in
    both-reached c.args.tracks.now c.args.a.now c.args.b.now c.requires.first.decides c.requires.second.decides c.tracks.ensures.valid.ascending connective.Or c.in-Ok.c
    c.in-Ok.c c.in-Ok.ensures.tracks c.in-Ok.ensures.words refl (λ word is. (λ h. h, λ h. h)) c.in-Ok.ensures.reached (omega (arith, most, c.in-Ok.ensures.few))

pub returns-in-Ok-clause-within : goal.returns-in-Ok-clause-within
returns-in-Ok-clause-within c = λ over.
    c.in-Ok.ensures.within
    ((both-exceeds c.args.tracks.now c.args.a.now c.args.b.now c.requires.first.decides c.requires.second.decides c.tracks.ensures.valid.ascending connective.Or c.args.budget).1 over)
