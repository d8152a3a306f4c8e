use Rattle.auto_numbers.proofs.least.+least.Given as goal

abbrev pub decreases-least : goal.decreases-least
decreases-least l = l.bits
