use Rattle.game_forever.proofs.CentreLemmas.{can_be_centred}
use Rattle.game_forever.proofs.laws.positions_can_be_centred.Goals as goal

pub returns : goal.returns
returns c = can_be_centred
