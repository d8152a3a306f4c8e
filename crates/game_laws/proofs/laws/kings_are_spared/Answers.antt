use Rattle.game_laws.proofs.SoundLemmas.{king_not_taken}
use Rattle.game_laws.proofs.laws.kings_are_spared.Goals as goal

pub returns : goal.returns
returns c = king_not_taken
