use Rattle.std.proofs.Common.{◌≡◌, ◌+◌, Some, slice_get, sym, ap, ◌∙◌, add-one, arith}
use Rattle.mate_desk.proofs.Live.{live_more, gone_more}
use Rattle.mate_desk.proofs.show.live_count.Goals as goal
use Rattle.mate_desk.proofs.show.live_count.Goals.{then-is_live, else-is_live}

pub loop-index-preserved : goal.loop-index-preserved
loop-index-preserved c =
    let men = c.args.p.now.men in
    let i = c.loop-index.index in
    let inv = c.loop-index.invariant in
    let at : slice_get men i ≡ Some c.man.result = rw add-one at c.man.ensures in
    elim c.if-is_live.branch [
      | then-is_live w ↦ record {
        counted = w.live-is ∙ ap (λ n. n + 1) inv.counted ∙ sym (live_more men i c.man.result at (sym c.is_live.ensures ∙ w.if-is_live.true));
        few = omega (arith, w.live-is, inv.few);
      }
      | else-is_live w ↦ record {
        counted = w.live-is ∙ inv.counted ∙ sym (gone_more men i c.man.result at (sym c.is_live.ensures ∙ w.if-is_live.false));
        few = omega (arith, w.live-is, inv.few);
      }
    ]
