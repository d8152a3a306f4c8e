use Rattle.play_loop.proofs.Reports.{one_report}
use Rattle.loser_player.specs.LoserRules.{IsOfDefence, loser_rules}
use Rattle.loser_player.specs.Playable.{loser_plays}
use Rattle.loser_player.proofs.laws.one_report.Goals as goal

pub returns : goal.returns
returns c = one_report loser_rules IsOfDefence loser_plays
