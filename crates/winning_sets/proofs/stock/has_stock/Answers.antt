use Rattle.std.proofs.Common.{◌+◌, IsTrue, arith, refl, subst}
use Rattle.winning_sets.proofs.Tuples.{alike_all, alike_more, stock_at}
use Rattle.winning_sets.proofs.stock.has_stock.Goals as goal

pub returns-then-not-is_same_man : goal.returns-then-not-is_same_man
returns-then-not-is_same_man c = (
  λ e. cc,
  λ h.
      let same = stock_at c.args.stock.now (c.loop-n.n + 1) c.man.result c.man-in-loop-n.result h c.man.ensures c.man-in-loop-n.ensures in
      subst IsTrue c.if-not-is_same_man.true (c.is_same_man.ensures.1 same),
)

pub loop-n-preserved : goal.loop-n-preserved
loop-n-preserved c =
    alike_more c.args.stock.now c.args.p.now c.loop-n.n c.man.result c.man-in-loop-n.result c.loop-n.invariant c.man.ensures c.man-in-loop-n.ensures
    (c.is_same_man.ensures.0 c.if-not-is_same_man.false)

pub returns : goal.returns
returns c = (
  λ e. alike_all c.args.stock.now c.args.p.now c.loop-n.n (omega arith) (omega arith) c.loop-n.invariant,
  λ h. refl,
)
