use Rattle.std.proofs.Common.{arith}
use Rattle.std.specs.List.{flat_map}
use Rattle.std.proofs.Common.{length}
use Rattle.strategy_writer.specs.Written.{man_bytes}
use Rattle.strategy_writer.proofs.Lengths.{men_step}
use Rattle.strategy_writer.proofs.Narrows.{narrow_more, narrow_all}
use Rattle.strategy_writer.proofs.writing.men_length.Goals as goal

pub loop-n-preserved : goal.loop-n-preserved
loop-n-preserved c = record {
  total =
      men_step c.args.position.now c.loop-n.n c.man.result c.loop-n.total c.man_length-total.result
      (length (flat_map man_bytes c.args.position.now.men)) c.man.ensures c.man_length-total.ensures.length c.loop-n.invariant.total;
  bound = let more = c.man_length-total.ensures.bound in let so_far = c.loop-n.invariant.bound in omega (arith, more, so_far);
  narrow = narrow_more c.args.position.now c.loop-n.n c.man.result c.man.ensures c.man_length-total.ensures.narrow c.loop-n.invariant.narrow;
}

pub returns-clause-narrow : goal.returns-clause-narrow
returns-clause-narrow c =
    let all = c.count-n-end.ensures.count in
    let past = c.loop-n-test.false in
    narrow_all c.args.position.now c.loop-n.n (omega (arith, all, past)) c.loop-n.invariant.narrow
