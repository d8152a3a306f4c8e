use Rattle.rule_formula.proofs.TracksTheorem.{bear_tracks, image_tracks, pre_tracks, safe_tracks}
use Rattle.rule_formula.proofs.laws.formulas_are_over_the_live_men.Goals as goal

pub returns : goal.returns
returns c = record { image = image_tracks; pre = pre_tracks; bear = bear_tracks; safe = safe_tracks }
