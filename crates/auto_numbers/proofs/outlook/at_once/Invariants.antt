use Rattle.auto_numbers.specs.Outlook.{AreMasks}
use Rattle.auto_numbers.proofs.outlook.at_once.Given as goal

abbrev pub invariant-loop-state : goal.invariant-loop-state
invariant-loop-state l = AreMasks l.a l.flag 0 l.state l.masks.items
