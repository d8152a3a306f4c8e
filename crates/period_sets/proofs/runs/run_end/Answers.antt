use Rattle.std.proofs.Common.{arith}
use Rattle.auto_numbers.specs.Numbers.{Has}
use Rattle.period_sets.proofs.FirstMembers.{ends-there, ends-at-end}
use Rattle.period_sets.proofs.runs.run_end.Goals as goal

pub returns-in-Some : goal.returns-in-Some
returns-in-Some c =
    rw c.min.ensures
    (ends-there (Has c.args.set.now.auto.now) c.args.low c.args.end c.in-Some.stop c.each_number_is_in_or_not.ensures c.requires.member c.requires.below
    c.in-Some.ensures)

pub returns-in-None : goal.returns-in-None
returns-in-None c =
    let end = c.requires.end in
    ends-at-end (Has c.args.set.now.auto.now) c.args.low c.args.end c.each_number_is_in_or_not.ensures c.requires.below (omega (arith, end))
    c.in-None.ensures
