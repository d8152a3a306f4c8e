-- Questions on the sets of a plan, each as one or several parts of its own.
use Rattle.std.specs.Prelude.{ℕ, List, [], ◌∷◌, ℤ, Bool, true, false}
use Rattle.game_rules.specs.Game.{Position}
use Rattle.game_rules.specs.declared.men.Side.{Side}
use Rattle.lin_formula.specs.SetOf.{SetOf}
use Rattle.set_plan.specs.Program.{Give, Ask, Empty, Has, ◌>>=◌}
use Rattle.set_plan.specs.Unite.{are_empty, is_within}
use Rattle.mate_plan.specs.Plan.{Level, Program, Rules, bear_items, check_set, difference, name, point_level, pre_set}
use Rattle.mate_plan.specs.Twins.{twin_items}
use Rattle.mate_plan.specs.declared.names.Part.{Part}
use Rattle.mate_plan.specs.declared.names.Part.TheVariants as kind

-- whether no two live men of the mask stand on one square, in the whole set
abbrev pub are_on_distinct_squares : Position → ℕ → ℕ → SetOf → Program Bool
are_on_distinct_squares p ply mask s = are_empty (name ply mask kind.Same) 1 (twin_items p mask s)

module _ (rules : Rules) where
  -- whether no man of the side bears on the other king, in the whole set
  abbrev pub are_safe : Side → ℕ → ℕ → SetOf → Program Bool
  are_safe side ply mask s = are_empty (name ply mask kind.Guard) 1 (bear_items rules side mask s)

  -- whether the side has a move into the level from each position of the set: the first part has the positions with a
  -- move, the second those without
  abbrev pub have_moves : Side → ℕ → ℕ → Part → Part → SetOf → Level → Program Bool
  have_moves side ply mask found missing s level = do
    moves ← pre_set rules side ply mask found s level
    is_within (rules.tracks mask) (name ply mask missing) s moves

  -- whether each position of the first level with the mask has a move into the other level
  abbrev pub are_answered : Side → ℕ → Level → Level → ℕ → Program Bool
  are_answered side ply from into mask = have_moves side ply mask kind.Answer kind.Left (from mask) into

  -- the positions of the set in which the side is not in check
  abbrev pub quiet_set : Side → ℕ → ℕ → SetOf → Program SetOf
  quiet_set side ply mask s = do
    check ← check_set rules side ply mask s
    difference rules ply mask kind.Quiet s check

  -- whether in each position of the set the side is in check or has a move into the level
  abbrev pub some_have_replies : Side → ℕ → ℕ → SetOf → Level → Program Bool
  some_have_replies side ply mask s into = do
    quiet ← quiet_set side ply mask s
    have_moves side ply mask kind.Reply kind.Stale quiet into

  -- the same for one mask of a level, without a step if the level has no such position
  abbrev pub have_replies : Side → ℕ → Level → Level → ℕ → Program Bool
  have_replies side ply from into mask =
      Ask (Empty (from mask ∷ [])) (Give true) (some_have_replies side ply mask (from mask) into)

  -- whether the side has a move into the level from the starting position, which has this mask and these coordinates
  abbrev pub has_first_move : Side → ℕ → List ℤ → Level → Program Bool
  has_first_move side mask tuple into = do
    start ← point_level rules mask
    first ← pre_set rules side 0 mask kind.First (start mask) into
    Ask (Has first tuple) (Give true) (Give false)
