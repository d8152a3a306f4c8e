use Rattle.std.proofs.Common.{◌<◌, ◌≤◌, refl, ◌∙◌, arith, length}
use Rattle.std.proofs.lemmas.List.{drop_all}
use Rattle.lin_formula.specs.TreeOf.{tree_of}
use Rattle.shift_image.specs.Read.{trees}
use Rattle.shift_image.proofs.Lefts.{tree-at, left-more, length-trees}
use Rattle.shift_image.proofs.leaving.left_in_turn.Goals as goal

pub left_of-requires : goal.left_of-requires
left_of-requires c =
    let g = tree_of c.f-item.result.now in
    let within : c.loop-f.f-index < length (trees c.args.formulas.now) = omega (arith, length-trees c.args.formulas.now, c.loop-f-test.true) in
    let asked = c.requires c.loop-f.f-index g within in
    rw (c.loop-f.invariant.tracks, ← tree-at c.args.formulas.now c.loop-f.f-index c.f-item.result c.loop-f-test.true c.f-item.is) asked

pub loop-f-preserved : goal.loop-f-preserved
loop-f-preserved c =
    let within : c.loop-f.f-index < length (trees c.args.formulas.now) = omega (arith, length-trees c.args.formulas.now, c.loop-f-test.true) in
    let is = tree-at c.args.formulas.now c.loop-f.f-index c.f-item.result c.loop-f-test.true c.f-item.is in
    let left = rw c.loop-f.invariant.budget at c.in_ok-auto.ensures.left in
    record {
      budget = c.in_ok-auto.ensures.budget ∙ c.loop-f.invariant.budget;
      kept = λ place entry there. c.in_ok-auto.ensures.kept place entry (c.loop-f.invariant.kept place entry there);
      tracks = left.tracks ∙ c.loop-f.invariant.tracks;
      rest = left-more (trees c.args.formulas.now) c.loop-f.f-index c.args.set within is c.loop-f.invariant.rest left;
      accessible = λ was. left.accessible;
    }

pub returns-clause-left : goal.returns-clause-left
returns-clause-left c =
    let past : length (trees c.args.formulas.now) ≤ c.loop-f.f-index = omega (arith, length-trees c.args.formulas.now, c.loop-f-test.false) in
    c.loop-f.invariant.rest c.loop-f.auto' (rw (drop_all c.loop-f.f-index (trees c.args.formulas.now) past) refl)
