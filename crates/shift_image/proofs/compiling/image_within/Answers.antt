use Rattle.std.proofs.Common.{◌≡◌, ap}
use Rattle.lin_formula.specs.SetOf.{Table, tables, as_set}
use Rattle.shift_image.specs.Image.{moved_tree}
use Rattle.shift_image.specs.Laws.{HasFewStates}
use Rattle.shift_image.specs.Read.{image_of}
use Rattle.shift_image.proofs.Askings.{set_is_there, set_is_fit, may_ask}
use Rattle.shift_image.proofs.Results.{compiled-on}
use Rattle.shift_image.proofs.compiling.image_within.Goals as goal

pub unreachable-requires : goal.unreachable-requires
unreachable-requires c =
    set_is_there c.args.sets.now (image_of c.args.image.now) c.requires.compilable c.requires.few_steps c.in_default.ensures

pub share-requires : goal.share-requires
share-requires c = rw c.as_slice.ensures.value c.requires.movable.some

pub moved_set-requires-clause-arity : goal.moved_set-requires-clause-arity
moved_set-requires-clause-arity c =
    (set_is_fit c.args.sets.now (image_of c.args.image.now) c.requires.compilable c.requires.few_steps c.in-Some.set.now c.in-Some.ensures).0

pub moved_set-requires-clause-integers : goal.moved_set-requires-clause-integers
moved_set-requires-clause-integers c =
    (set_is_fit c.args.sets.now (image_of c.args.image.now) c.requires.compilable c.requires.few_steps c.in-Some.set.now c.in-Some.ensures).1

pub minus_all-requires : goal.minus_all-requires
minus_all-requires c =
    let i = image_of c.args.image.now in
    let is : tables c.args.sets.now i.set ≡ Table c.in-Some.set.now = ap as_set c.in-Some.ensures in
    let decides = c.in_ok-moved.ensures.decides (tables c.args.sets.now) is in
    rw c.as_slice-2.ensures.value
    (may_ask c.args.sets.now i c.requires.compilable c.requires.few_steps c.in_ok-moved.moved c.requires.movable.shiftable decides.tracks)

pub returns-clause-made : goal.returns-clause-made
returns-clause-made c =
    let i = image_of c.args.image.now in
    let e = tables c.args.sets.now in
    let budget = c.args.memo.now.budget in
    let each = c.in-Some-share.each in
    let set = c.in-Some.set.now in
    let moved = c.in_ok-moved.moved in
    let part = c.in_ok-part.part in
    let fits = set_is_fit c.args.sets.now i c.requires.compilable c.requires.few_steps set c.in-Some.ensures in
    let is : e i.set ≡ Table set = ap as_set c.in-Some.ensures in
    let moved_decides = c.in_ok-moved.ensures.decides e is in
    let left = rw c.as_slice-2.ensures.value at c.in_ok-part.ensures.left in
    let decides = left.decides (moved_tree i) moved_decides in
    let accessible = left.accessible c.in_ok-moved.ensures.accessible in
    let few : HasFewStates i e budget each = record {
      set = set;
      is_set = is;
      valid = c.states.ensures.valid;
      arity = fits.0;
      integers = fits.1;
      start = rw (c.as_slice.ensures.value, c.states.ensures.states, c.budget.ensures.is) at c.in-Some-share.ensures.start;
      changes = rw (c.as_slice.ensures.value, c.budget.ensures.is) at c.in-Some-share.ensures.changes;
      clear = left.within (moved_tree i) moved_decides;
      part = part;
      is_part = c.states-2.ensures.valid;
      decides = decides;
      few = accessible.few;
    } in
    compiled-on i e budget each part c.image_says_what_its_part_says.ensures c.steps_of_an_image_are_within.ensures
    c.requires.movable.shiftable few decides accessible
