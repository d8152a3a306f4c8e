use Rattle.game_forever.proofs.TableLemmas.{lost_table}
use Rattle.game_forever.proofs.laws.lost_positions_are_a_table.Goals as goal

pub returns : goal.returns
returns c = lost_table
