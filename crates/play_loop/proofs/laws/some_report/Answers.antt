use Rattle.play_loop.proofs.Reports as reports
use Rattle.play_loop.proofs.laws.some_report.Goals as goal

pub returns-clause-whole : goal.returns-clause-whole
returns-clause-whole g c = λ before lines m kept. reports.some_report g.P.Player.rules g.P.Player.is_kept g.met.P.Player.playable before lines m kept

pub returns-clause-later : goal.returns-clause-later
returns-clause-later g c = λ before read lines m kept due. reports.some_later g.P.Player.rules g.P.Player.is_kept g.met.P.Player.playable before read lines m kept due
