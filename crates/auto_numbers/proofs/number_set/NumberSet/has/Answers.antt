use Rattle.std.proofs.Common.{arith}
use Rattle.auto_numbers.proofs.Sides.{has-next}
use Rattle.auto_numbers.proofs.number_set.NumberSet.has.Goals as goal

pub returns-in-Some : goal.returns-in-Some
returns-in-Some c = has-next c.args.self.now.auto.now c.args.number c.in-Some.found c.in-Some.ensures

pub returns-in-None : goal.returns-in-None
returns-in-None c = (λ never. cc, λ member. absurd (c.in-None.ensures c.args.number (omega arith) c.requires member))
