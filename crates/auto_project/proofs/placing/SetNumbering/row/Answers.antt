use Rattle.auto_project.proofs.Placings.{RemembersPlaced-same}
use Rattle.auto_project.proofs.placing.SetNumbering.row.Goals as goal

pub returns-in_err-make_room-clause-remembered : goal.returns-in_err-make_room-clause-remembered
returns-in_err-make_room-clause-remembered c = RemembersPlaced-same c.make_room.ensures.same c.requires.remembered

pub led-requires-clause-remembered : goal.led-requires-clause-remembered
led-requires-clause-remembered c = RemembersPlaced-same c.make_room.ensures.same c.requires.remembered
