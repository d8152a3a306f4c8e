use Rattle.std.proofs.Common.{arith, ◌∙◌, get_or, pos, sym, ap, w32}
use Rattle.std.proofs.lemmas.Int.{to_z-of_z}
use Rattle.std.proofs.lemmas.List.Sums.{sum_by_more}
use Rattle.auto_core.specs.Sums.{gain, loss}
use Rattle.auto_core.proofs.Assembled.{SFits-small, gain-small, loss-small, summed}
use Rattle.auto_core.proofs.lin.reach.Goals as goal

pub loop-weight-preserved : goal.loop-weight-preserved
loop-weight-preserved c =
    let inv = c.loop-weight.invariant in
    let i = c.loop-weight.weight-index in
    let below = c.loop-weight-test.true in
    let few = c.requires.few in
    let x = get_or c.args.weights.now i (pos 0) in
    let small = c.requires.small i (pos 0) below in
    let same = to_z-of_z w32 x (SFits-small x small) in
    let g = rw same at c.gain_of-most.ensures in
    let l = rw same at c.loss_of-least.ensures in
    let gs = gain-small x small.1 in
    let ls = loss-small x small.0 in
    let more_g = sum_by_more gain c.args.weights.now i (pos 0) below in
    let more_l = sum_by_more loss c.args.weights.now i (pos 0) below in
    let ms = inv.most_small in
    let ns = inv.least_small in
    record {
      most = summed _ _ _ _ inv.most g (omega (arith, ms, below, few)) gs ∙ ap pos (sym more_g);
      least = summed _ _ _ _ inv.least l (omega (arith, ns, below, few)) ls ∙ ap pos (sym more_l);
      most_small = omega (arith, ms, gs, more_g);
      least_small = omega (arith, ns, ls, more_l);
    }
