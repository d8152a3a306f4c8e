use Rattle.std.proofs.Common.{◌≡◌}
use Rattle.mask_sets.specs.Sets.{IsIn}
use Rattle.move_choice.proofs.Picks.{NoneBelowRay}
use Rattle.move_choice.proofs.pick.of_man.Given as goal

abbrev pub invariant-loop-number : goal.invariant-loop-number
invariant-loop-number l = (l.search ≡ l.initial.search) × NoneBelowRay (IsIn l.aim.sets.now) l.aim.frame l.aim.position.now l.man l.number
