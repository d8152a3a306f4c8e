use Rattle.game_laws.proofs.MateLemmas.{mate_or_move}
use Rattle.game_laws.proofs.laws.mate_or_move.Goals as goal

pub returns : goal.returns
returns c = mate_or_move
