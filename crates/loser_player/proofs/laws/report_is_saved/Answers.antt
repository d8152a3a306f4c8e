use Rattle.loser_player.proofs.Saving.{report_saved}
use Rattle.loser_player.proofs.laws.report_is_saved.Goals as goal

pub returns : goal.returns
returns c = report_saved
