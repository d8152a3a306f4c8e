use Rattle.std.proofs.Common.{arith, w32}
use Rattle.std.proofs.lemmas.Int.{to_z-of_z}
use Rattle.letter_diagram.proofs.Maps.{Grows-trans}
use Rattle.auto_core.proofs.Assembled.{SFits-near, AreSumRows-grows, AreSumRows-push, IsSumRow-doubled}
use Rattle.auto_core.proofs.lin.state_rows.Goals as goal

pub loop-state-preserved : goal.loop-state-preserved
loop-state-preserved c =
    let inv = c.loop-state.invariant in
    let made = c.in_ok-node.ensures in
    let sum = c.doubled-sum.ensures in
    record {
      count = let l = c.in_ok-push.ensures.len in let n = inv.count in omega (arith, l, n);
      rows = rw c.in_ok-push.ensures.items (AreSumRows-push _ inv.count (AreSumRows-grows made.grows inv.rows) (IsSumRow-doubled _ sum.near sum.sum made.row));
      remembered = made.remembered;
      grows = Grows-trans inv.grows made.grows;
    }

pub row-requires-clause-near : goal.row-requires-clause-near
row-requires-clause-near c = let near = c.doubled-sum.ensures.near in rw (to_z-of_z w32 c.doubled-sum.result (SFits-near near)) near

pub returns-in_err-push-clause-grows : goal.returns-in_err-push-clause-grows
returns-in_err-push-clause-grows c = Grows-trans c.loop-state.invariant.grows c.in_ok-node.ensures.grows
