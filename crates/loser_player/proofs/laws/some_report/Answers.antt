use Rattle.play_loop.proofs.Reports.{some_report}
use Rattle.loser_player.specs.LoserRules.{IsOfDefence, loser_rules}
use Rattle.loser_player.specs.Playable.{loser_plays}
use Rattle.loser_player.proofs.laws.some_report.Goals as goal

pub returns : goal.returns
returns c = some_report loser_rules IsOfDefence loser_plays
