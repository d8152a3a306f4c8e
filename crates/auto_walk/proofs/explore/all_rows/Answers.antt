use Rattle.std.proofs.Common.{◌≡◌, ◌<◌, length, arith, ◌∙◌}
use Rattle.auto_walk.proofs.RowLemmas.{Extends-trans, length-Extends, LeadsOn-row, AreRows-push}
use Rattle.letter_diagram.proofs.Maps.{Grows-trans}
use Rattle.auto_walk.proofs.explore.all_rows.Goals as goal

pub loop-number-preserved : goal.loop-number-preserved
loop-number-preserved g c =
    let so_far = c.loop-number.invariant in
    let step = c.in_ok-node.ensures in
    let numbered = rw so_far.walker at step.numbered in
    let row = rw so_far.walker at step.row in
    let test : c.loop-number.number < length (g.W.Walk.places c.loop-number.walk) = omega (arith, c.count.ensures, c.loop-number-test.true) in
    let longer = length-Extends _ step.kept test in
    let last : c.loop-number.number ≡ length c.loop-number.rows.items = omega (arith, so_far.size) in
    record {
      walker = step.walker ∙ so_far.walker;
      numbered = numbered;
      room = step.room;
      kept = Extends-trans so_far.kept step.kept;
      grows = Grows-trans so_far.grows step.grows;
      within = omega (arith, longer);
      rows = rw c.in_ok-push.ensures.items (AreRows-push _ last step.grows step.kept so_far.rows (LeadsOn-row _ step.kept row));
      size = omega (arith, c.in_ok-push.ensures.len, so_far.size);
    }
