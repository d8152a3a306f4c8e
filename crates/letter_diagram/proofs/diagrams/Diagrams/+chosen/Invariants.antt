use Rattle.std.proofs.Common.{◌+◌}
use Rattle.letter_diagram.proofs.diagrams.Diagrams.+chosen.Given as goal

abbrev pub decreases-chosen : goal.decreases-chosen
decreases-chosen l = l.low + l.high
