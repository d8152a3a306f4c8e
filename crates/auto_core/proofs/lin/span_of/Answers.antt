use Rattle.auto_core.proofs.Assembled.{IsSpanOf-cast}
use Rattle.auto_core.proofs.lin.span_of.Goals as goal

pub returns : goal.returns
returns c =
    let reach = c.reach-most.ensures in
    IsSpanOf-cast _ _ _ _ _ _ c.ranges.bound c.requires.low c.requires.high reach.most_small reach.least_small reach.most reach.least c.min.ensures.value c.max.ensures.value
