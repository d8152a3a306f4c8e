-- The men after the options of a path.
use Rattle.std.specs.Prelude.{◌≡◌, ◌≤◌, List, length}
use Rattle.game_rules.specs.Game.{Position}
use Rattle.line_formula.specs.declared.leg.Leg.{Leg}
use Rattle.line_formula.specs.declared.leg.TheConstants.{MOST_LEGS}
use Rattle.line_formula.specs.declared.scene.Force.{Force}
use Rattle.lin_formula.specs.Tree.{Tree}
use Rattle.line_formula.specs.Paths.{dangers_at, legs_at, mask_at, turn_at}
use Rattle.line_formula.specs.Places.{home}
use Rattle.line_formula.specs.Rules.{safe_parts}
use Rattle.rule_formula.specs.Placed.{is_live}
use Rattle.rule_formula.specs.declared.opt.Opt.{Opt}
use Rattle.line_engine.specs.declared.crowd.Crowd.{Crowd}

-- the position of a crowd
abbrev pub position_of : Crowd → Position
position_of c = record { men = c.men.now; turn = c.turn }

-- the legs of the path, the men who are live after it, and the side to move
pub record IsAfterPath (p : Position) (path : List Opt) (legs : List Leg) (force : Force) : Type 0 where
  pub few : length path ≤ MOST_LEGS
  pub legs_are : legs ≡ legs_at p path
  pub mask : force.mask ≡ mask_at p path
  pub side : force.side ≡ turn_at p path

-- for each ray along which the other side may bear on the king of the side that moved last: no man does
abbrev pub safe_after : Position → List Opt → List Tree
safe_after p path =
    safe_parts (home p.men) (legs_at p path) p.men (is_live (mask_at p path)) (dangers_at p path)
