use Rattle.stock_laws.proofs.AlikeGames.{live_sound}
use Rattle.stock_laws.proofs.laws.live_men_keep_soundness.Goals as goal

pub returns : goal.returns
returns c = live_sound
