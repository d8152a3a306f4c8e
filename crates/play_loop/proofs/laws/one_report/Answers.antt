use Rattle.play_loop.proofs.Reports as reports
use Rattle.play_loop.proofs.laws.one_report.Goals as goal

pub returns : goal.returns
returns g c = λ before lines m one two h k. reports.one_report g.P.Player.rules g.P.Player.is_kept g.met.P.Player.playable before lines m one two h k
