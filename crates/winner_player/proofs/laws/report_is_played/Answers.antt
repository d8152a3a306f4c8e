use Rattle.winner_player.proofs.Played.{report_played}
use Rattle.winner_player.proofs.laws.report_is_played.Goals as goal

pub returns : goal.returns
returns c = λ before lines s report h. report_played s before lines report h
