use Rattle.std.proofs.Common.{◌≡◌}
use Rattle.lin_formula.specs.SetOf.{tables}
use Rattle.shift_image.specs.Read.{trees}
use Rattle.shift_image.proofs.SomeOf.{some-tracks, left-at-once}
use Rattle.shift_image.proofs.leaving.left_at_once.Goals as goal

pub any_of-requires : goal.any_of-requires
any_of-requires c = record { vars = c.args.set.now.tracks; few = c.tracks.ensures.valid.few_tracks; each = c.requires }

pub difference-requires : goal.difference-requires
difference-requires c =
    let some = rw c.in-Some.is at c.in_ok-any.ensures.some in
    let same = some-tracks (tables c.args.scope.now.sets.now) c.in-Some.any (trees c.args.formulas.now) c.tracks.ensures.valid c.requires some in
    rw same c.tracks.ensures.valid.few_tracks

pub returns-clause-left : goal.returns-clause-left
returns-clause-left c =
    let some = rw c.in-Some.is at c.in_ok-any.ensures.some in
    let few = rw (c.in-Some.is, c.new-alone.ensures.count, c.states.ensures.states) at c.in_ok-any.ensures.few in
    left-at-once (tables c.args.scope.now.sets.now) c.args.memo.now.budget c.new-alone.result.most c.args.scope.now.each (trees c.args.formulas.now)
    c.new-alone.ensures.most c.new-alone.ensures.small c.tracks.ensures.valid c.requires some few c.in_ok-left.ensures
