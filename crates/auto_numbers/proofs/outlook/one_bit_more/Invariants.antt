use Rattle.std.proofs.Common.{◌+◌}
use Rattle.auto_numbers.specs.Outlook.{AreMasks}
use Rattle.auto_numbers.proofs.outlook.one_bit_more.Given as goal

abbrev pub invariant-loop-state : goal.invariant-loop-state
invariant-loop-state l = AreMasks l.a l.flag (l.most + 1) l.state l.more.items
