use Rattle.std.proofs.Common.{arith}
use Rattle.auto_numbers.specs.Numbers.{Has}
use Rattle.period_sets.proofs.FirstMembers.{first-member, none-before}
use Rattle.period_sets.proofs.runs.run_start.Goals as goal

pub returns-then-low-end : goal.returns-then-low-end
returns-then-low-end c =
    first-member (Has c.args.set.now.auto.now) c.args.from c.args.end c.in-Some.low c.in-Some.ensures c.if-low-end.true

pub returns-else-low-end : goal.returns-else-low-end
returns-else-low-end c =
    none-before (Has c.args.set.now.auto.now) c.args.from c.args.end c.in-Some.low c.in-Some.ensures c.if-low-end.false

pub returns-in-None : goal.returns-in-None
returns-in-None c t past small = let end = c.requires in c.in-None.ensures t past (omega (arith, small, end))
