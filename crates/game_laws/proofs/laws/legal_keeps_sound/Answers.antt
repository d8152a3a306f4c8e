use Rattle.game_laws.proofs.SoundLemmas.{legal_sound}
use Rattle.game_laws.proofs.laws.legal_keeps_sound.Goals as goal

pub returns : goal.returns
returns c = legal_sound
