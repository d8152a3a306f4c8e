use Rattle.winner_player.proofs.Played.{report_lost}
use Rattle.winner_player.proofs.laws.report_is_lost.Goals as goal

pub returns : goal.returns
returns c = λ before lines s report valid value h k after is. report_lost s valid value before lines report h k after is
