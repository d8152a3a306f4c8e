use Rattle.std.proofs.Common.{◌≡◌, sym, ap, ◌∙◌, arith}
use Rattle.stock_text.specs.Kings.{is_king_of, one_if}
use Rattle.stock_text.proofs.KingLemmas.{king_count_more}
use Rattle.stock_text.proofs.kings.count_kings.Goals as goal
use Rattle.stock_text.proofs.kings.count_kings.Goals.{then-is_king_of, else-is_king_of}

pub loop-index-preserved : goal.loop-index-preserved
loop-index-preserved c =
    let inv = c.loop-index.invariant in
    let m = c.man_of.result in
    let more = king_count_more c.args.side c.args.men.now c.loop-index.index m c.man_of.ensures in
    elim c.if-is_king_of.branch [
      | then-is_king_of w ↦
          let one : one_if (is_king_of c.args.side m) ≡ 1 = ap one_if (sym c.is_king_of.ensures ∙ w.if-is_king_of.true) in
          record { counted = omega (arith, w.count-is, inv.counted, more, one); few = omega (arith, w.count-is, inv.few) }
      | else-is_king_of w ↦
          let none : one_if (is_king_of c.args.side m) ≡ 0 = ap one_if (sym c.is_king_of.ensures ∙ w.if-is_king_of.false) in
          record { counted = omega (arith, w.count-is, inv.counted, more, none); few = omega (arith, w.count-is, inv.few) }
    ]
