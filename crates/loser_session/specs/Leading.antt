-- Whether a move leads into sets, to any square of the board.
use Rattle.std.specs.Prelude.{ℕ}
use Rattle.game_rules.specs.Game.{Position, Legal}
use Rattle.game_rules.specs.declared.men.Square.{Square}
use Rattle.mask_sets.specs.Sets.{IsIn}
use Rattle.move_choice.specs.Along.{LeadsAnywhere}
use Rattle.move_choice.specs.declared.aim.Aim.{Aim}

-- no legal move leads into the set
abbrev pub LeadsNowhere : (Position → Type 0) → Position → Type 0
LeadsNowhere S p = (i : ℕ) (z : Square) (q : Position) → Legal p i z q → S q → ⊥

-- at this distance along a ray of this man a legal move leads into the sets of the aim
abbrev pub LeadsThere : Aim → ℕ → ℕ → ℕ → Type 0
LeadsThere aim man ray distance = LeadsAnywhere (IsIn aim.sets.now) aim.position.now man ray distance
