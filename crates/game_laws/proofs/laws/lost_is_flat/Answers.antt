use Rattle.game_rules.specs.Game.{Win}
use Rattle.game_laws.proofs.ValueLemmas.{flat_lost, lost_flat}
use Rattle.game_laws.proofs.laws.lost_is_flat.Goals as goal

pub returns : goal.returns
returns c = λ winner n q sound. (lost_flat winner (Win winner n) q, flat_lost winner (Win winner n) sound)
