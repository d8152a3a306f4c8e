use Rattle.winning_sets.proofs.KeptGame.{kept_are_of_game}
use Rattle.winning_sets.proofs.laws.kept_are_of_game.Goals as goal

pub returns : goal.returns
returns c = kept_are_of_game
