use Rattle.std.proofs.Common.{rules, ◌≡◌, ◌≢◌, ◌+◌, ◌++◌, ◌∷◌, [], Some, slice_get, take, add-one, arith, ap, sym, ◌∙◌}
use Rattle.game_rules.specs.declared.men.Place.TheVariants.{Gone}
use Rattle.stock_position.specs.Live.{live_men}
use Rattle.stock_position.proofs.LiveMen.{gone_more, live_more}
use Rattle.stock_position.proofs.live.list_live.Goals as goal
use Rattle.stock_position.proofs.live.list_live.Goals.{then-ne, else-ne}

pub loop-i-preserved : goal.loop-i-preserved
loop-i-preserved c =
    let all = c.args.p.now.men in
    let m = c.man-man.result in
    let inv = c.loop-i.invariant in
    let at : slice_get all c.loop-i.i ≡ Some m = rw add-one at c.man-man.ensures in
    elim c.if-ne.branch [
      | then-ne w ↦
          let live : m.place ≢ Gone = search rules in
          let more : live_men (take (c.loop-i.i + 1) all) ≡ live_men (take c.loop-i.i all) ++ m ∷ [] = rw add-one (live_more all c.loop-i.i m at live) in
          let stored : take c.if-ne.count c.if-ne.men ≡ live_men (take c.loop-i.i all) ++ m ∷ [] =
          rw (w.men-is, w.count-is) (w.store.ensures ∙ ap (λ front. front ++ m ∷ []) inv.men) in
          record { men = stored ∙ sym more; few = omega (arith, w.count-is, inv.few) }
      | else-ne w ↦
          let gone : m.place ≡ Gone = search rules in
          let more : live_men (take (c.loop-i.i + 1) all) ≡ live_men (take c.loop-i.i all) = rw add-one (gone_more all c.loop-i.i m at gone) in
          let kept : take c.if-ne.count c.if-ne.men ≡ live_men (take c.loop-i.i all) = rw (w.men-is, w.count-is) inv.men in
          record { men = kept ∙ sym more; few = omega (arith, w.count-is, inv.few) }
    ]
