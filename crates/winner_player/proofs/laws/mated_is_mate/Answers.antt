use Rattle.winner_player.proofs.Mates.{mated_mate}
use Rattle.winner_player.proofs.laws.mated_is_mate.Goals as goal

pub returns : goal.returns
returns c = λ before lines g report h is. mated_mate before lines g report h is
