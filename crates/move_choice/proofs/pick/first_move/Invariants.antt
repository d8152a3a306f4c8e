use Rattle.std.proofs.Common.{◌≡◌}
use Rattle.mask_sets.specs.Sets.{IsIn}
use Rattle.move_choice.proofs.Picks.{NoneBelowMan}
use Rattle.move_choice.proofs.pick.first_move.Given as goal

abbrev pub invariant-loop-man : goal.invariant-loop-man
invariant-loop-man l = (l.search ≡ l.initial.search) × NoneBelowMan (IsIn l.aim.sets.now) l.aim.frame l.aim.position.now l.man
