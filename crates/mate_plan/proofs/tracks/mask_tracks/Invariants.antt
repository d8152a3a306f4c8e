use Rattle.std.proofs.Common.{◌≡◌}
use Rattle.rule_formula.specs.Placed.{is_live}
use Rattle.rule_formula.specs.Seats.{own, vars_to}
use Rattle.mate_plan.proofs.tracks.mask_tracks.Given as goal

abbrev pub invariant-loop-n : goal.invariant-loop-n
invariant-loop-n l = l.tracks.items ≡ vars_to own (is_live l.mask) l.n
