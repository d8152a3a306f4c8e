use Rattle.std.proofs.Common.{◌+◌, ◌*◌, length}
use Rattle.arith_desk.specs.Line.{texts}
use Rattle.arith_desk.proofs.reading.+formula.Given as goal

abbrev pub decreases-formula : goal.decreases-formula
decreases-formula l = 2 * length (texts l.fields.now)

abbrev pub decreases-joined : goal.decreases-joined
decreases-joined l = 2 * length (texts l.fields.now) + 1

abbrev pub decreases-bound : goal.decreases-bound
decreases-bound l = 2 * length (texts l.fields.now) + 1
