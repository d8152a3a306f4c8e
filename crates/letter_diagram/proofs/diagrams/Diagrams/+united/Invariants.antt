use Rattle.std.proofs.Common.{◌+◌, ◌*◌}
use Rattle.letter_diagram.proofs.diagrams.Diagrams.+united.Given as goal

abbrev pub decreases-united : goal.decreases-united
decreases-united l = 2 * (l.a + l.b) + 1

abbrev pub decreases-united_sides : goal.decreases-united_sides
decreases-united_sides l = 2 * (l.a + l.b)
