-- The plan of a position, a winner and a number of moves.
use Rattle.std.specs.Prelude.{ℕ, zero, suc, ◌+◌, ◌*◌, List, [], Option, Some, None, pos}
use Rattle.game_rules.specs.Game.{Position}
use Rattle.game_rules.specs.declared.men.Side.{Side}
use Rattle.lin_formula.specs.Tree.{Tree, Value}
use Rattle.rule_formula.specs.Bearings.{bearings_of}
use Rattle.rule_formula.specs.Fits.{masks_of, target_of}
use Rattle.mask_sets.specs.Stock.{mask_of}
use Rattle.rule_formula.specs.Options.{options_of}
use Rattle.rule_formula.specs.Placed.{is_live}
use Rattle.rule_formula.specs.Seats.{var}
use Rattle.rule_formula.specs.Trees.{bear_of, image_of, point_of, pre_of, safe_of, tracks_of}
use Rattle.set_plan.specs.Program.{Give}
use Rattle.mate_plan.specs.Plan.{Level, Program, Rules, plan}
use Rattle.mate_plan.specs.Turns.{plies_before_turn}

-- the last ply of a plan, given the winner and the side that moves first: it is the winner's turn, and he has no move
-- left
abbrev pub last_ply : Side → Side → ℕ → ℕ
last_ply winner first moves = 2 * moves + plies_before_turn winner first

-- a formula, if there is one
abbrev pub formula_or : Tree → Option Tree → Tree
formula_or f None = f
formula_or f (Some g) = g

-- the formulas of the rules for the men of a position and the squares where they stand
abbrev pub rules_of : Position → Rules
rules_of p = record {
  masks = masks_of p;
  tracks = λ mask. tracks_of p.men (is_live mask);
  choices = λ side mask. options_of p.men mask side;
  target = target_of;
  bearings = λ side mask. bearings_of p.men mask side;
  point = formula_or (Value (var 0) (pos 0)) (point_of p.men);
  image = λ mask o. image_of p.men mask o 0;
  pre = λ mask o. pre_of p.men mask o 0 1;
  bear = λ mask b. bear_of p.men mask b.man b.ray b.king 0;
  safe = λ mask b. safe_of p.men mask b.man b.ray b.king 0;
}

-- the plan has no step if it is the winner's turn and he has no move
abbrev pub plan_to : Position → ℕ → Program (List Level)
plan_to p zero = Give []
plan_to p (suc last) = plan (rules_of p) p.turn (mask_of p) (suc last)

-- the plan by which the winner mates within `moves` moves
abbrev pub plan_of : Side → Position → ℕ → Program (List Level)
plan_of winner p moves = plan_to p (last_ply winner p.turn moves)
