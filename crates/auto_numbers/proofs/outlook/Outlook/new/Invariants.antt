use Rattle.std.proofs.Common.{length}
use Rattle.auto_numbers.specs.Outlook.{AreMasks}
use Rattle.auto_numbers.proofs.outlook.Outlook.new.Given as goal

abbrev pub invariant-loop-most : goal.invariant-loop-most
invariant-loop-most l = AreMasks l.a l.flag l.most (length l.a.accept) l.masks.items
