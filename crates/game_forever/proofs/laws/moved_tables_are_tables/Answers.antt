use Rattle.game_forever.proofs.MovedRules.{moved_is_table}
use Rattle.game_forever.proofs.laws.moved_tables_are_tables.Goals as goal

pub returns : goal.returns
returns g c = moved_is_table g.L.PositionSets.has
