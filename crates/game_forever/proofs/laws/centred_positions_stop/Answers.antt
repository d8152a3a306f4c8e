use Rattle.game_forever.proofs.CentreLemmas.{centre_stops}
use Rattle.game_forever.proofs.laws.centred_positions_stop.Goals as goal

pub returns : goal.returns
returns c = centre_stops
