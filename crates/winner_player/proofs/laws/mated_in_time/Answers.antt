use Rattle.winner_player.proofs.Played.{report_in_time}
use Rattle.winner_player.proofs.laws.mated_in_time.Goals as goal

pub returns : goal.returns
returns c = λ before lines s report valid value h. report_in_time s valid value before lines report h
