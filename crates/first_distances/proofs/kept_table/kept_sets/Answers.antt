use Rattle.std.proofs.Common.{get_or, arith}
use Rattle.winning_sets.specs.Solve.{kept_at}
use Rattle.first_distances.proofs.TableLemmas.{few_sets, put_next, put_some}
use Rattle.first_distances.proofs.kept_table.kept_sets.Goals as goal

pub put-requires : goal.put-requires
put-requires c =
    let low = c.loop-mask-test.true in
    few_sets (kept_at c.args.solved.now 1) c.args.masks.now c.loop-mask.mask-index c.loop-mask.sets (omega (arith, low)) c.requires.few c.loop-mask.invariant

pub loop-mask-preserved : goal.loop-mask-preserved
loop-mask-preserved c =
    put_next (kept_at c.args.solved.now 1) c.args.masks.now c.loop-mask.mask-index 0 c.loop-mask.sets _ c.loop-mask-test.true c.loop-mask.invariant
    (put_some _ _ c.kept_set.result.now (kept_at c.args.solved.now 1 (get_or c.args.masks.now c.loop-mask.mask-index 0)) c.in_ok-put.ensures c.kept_set.ensures)
