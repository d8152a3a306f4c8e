use Rattle.std.proofs.Common.{◌+◌, ◌≤◌, length, arith}
use Rattle.automaton_trials.proofs.Together.{few_together}
use Rattle.automaton_trials.proofs.reduced_auto.are_few_together.Goals as goal

pub returns : goal.returns
returns c = λ _.
    let few : length c.args.a.now.tracks + length c.args.b.now.tracks ≤ 20 = omega (arith, c.track_count-left.ensures.count, c.track_count-right.ensures.count, c.if-left-right.false) in
    few_together c.args.a.now.tracks c.args.b.now.tracks few
