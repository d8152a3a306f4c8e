use Rattle.track_word.proofs.Spelling.{Spells-spelled}
use Rattle.track_word.proofs.laws.bits_spell_their_integers.Goals as goal

pub returns : goal.returns
returns c = Spells-spelled
