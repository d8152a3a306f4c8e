use Rattle.move_choice.proofs.Bridges.{none_least, some_least}
use Rattle.move_choice.proofs.ray_moves.least_along.Goals as goal

pub returns-in-Some-clause-least : goal.returns-in-Some-clause-least
returns-in-Some-clause-least c = some_least c.in-Some.ensures.first

pub returns-in-None-clause-least : goal.returns-in-None-clause-least
returns-in-None-clause-least c = none_least c.in-None.ensures.first
