-- The plan of a position and a number of moves.
use Rattle.std.specs.Prelude.{ℕ, zero, suc, ◌==◌, if◌then◌else◌, List, [], ◌∷◌, length, map, filter, Bool, true, not}
use Rattle.std.specs.List.{flat_map}
use Rattle.track_word.specs.declared.tracks.Var.{Var}
use Rattle.game_rules.specs.Game.{other}
use Rattle.game_rules.specs.declared.men.Side.{Side}
use Rattle.lin_formula.specs.Tree.{Tree}
use Rattle.lin_formula.specs.SetOf.{SetOf, Nothing}
use Rattle.rule_formula.specs.declared.opt.Opt.{Opt}
use Rattle.set_plan.specs.Program as set_plan
use Rattle.set_plan.specs.Program.{Item, Give, Ask, Empty, each, ◌>>=◌}
use Rattle.set_plan.specs.Unite as set_plan_unite
use Rattle.set_plan.specs.Unite.{Made, make, difference_set, union_of_two, two}
use Rattle.rule_formula.specs.declared.opt.Bearing.{Bearing}
use Rattle.mate_plan.specs.declared.names.Part.{Part}
use Rattle.mate_plan.specs.declared.names.Part.TheVariants as kind
use Rattle.mate_plan.specs.declared.names.PartName.{PartName}

-- the formulas of the rules, over symbol 0 for the source and symbol 1 for the target
pub record Rules : Type 0 where
  pub masks : List ℕ
  pub tracks : ℕ → List Var
  pub choices : Side → ℕ → List Opt
  pub target : ℕ → Opt → ℕ
  pub bearings : Side → ℕ → List Bearing
  pub point : Tree
  pub image : ℕ → Opt → Tree
  pub pre : ℕ → Opt → Tree
  pub bear : ℕ → Bearing → Tree
  pub safe : ℕ → Bearing → Tree

-- a program whose parts are named by ply, mask and part
abbrev pub Program : Type 0 → Type 0
Program A = set_plan.Program PartName A

-- a set for each mask
abbrev pub Level : Type 0
Level = ℕ → SetOf

abbrev pub no_sets : Level
no_sets mask = Nothing

abbrev pub level_with : Level → ℕ → SetOf → Level
level_with level mask s k = if k == mask then s else level k

-- adds the set of the mask to the level so far
abbrev pub with_mask : (ℕ → Program SetOf) → ℕ → Level → Program Level
with_mask f mask level = do
  s ← f mask
  Give (level_with level mask s)

-- adds a set for each of the masks to the level so far, in order
abbrev pub for_masks : List ℕ → (ℕ → Program SetOf) → Level → Program Level
for_masks masks f level = each masks (with_mask f) level

abbrev pub name : ℕ → ℕ → Part → PartName
name ply mask p = record { ply = ply; mask = mask; part = p }

-- the side to move after `ply` moves
abbrev pub turn_at : Side → ℕ → Side
turn_at first zero = first
turn_at first (suc ply) = other (turn_at first ply)

abbrev pub is_even : ℕ → Bool
is_even zero = true
is_even (suc n) = not (is_even n)

module _ (rules : Rules) where
  -- the union of the sets of these items, as a part of its own
  abbrev pub union : ℕ → ℕ → Part → List Item → Program SetOf
  union ply mask p items = set_plan_unite.union (rules.tracks mask) (name ply mask p) items

  -- one set without another, as a part of its own
  abbrev pub difference : ℕ → ℕ → Part → SetOf → SetOf → Program SetOf
  difference ply mask p s t = difference_set (rules.tracks mask) (name ply mask p) s t

  -- the options whose target is a mask
  abbrev pub choices_into : Side → ℕ → ℕ → List Opt
  choices_into side mask to = filter (λ o. rules.target mask o == to) (rules.choices side mask)

  abbrev pub image_item : ℕ → SetOf → Opt → Item
  image_item mask source o = record { formula = rules.image mask o; sets = λ _. source }

  abbrev pub image_items : Side → ℕ → Level → List Item
  image_items side to level =
      flat_map (λ mask. map (image_item mask (level mask)) (choices_into side mask to)) rules.masks

  abbrev pub pre_item : ℕ → SetOf → Level → Opt → Item
  pre_item mask source targets o =
      record { formula = rules.pre mask o; sets = two source (targets (rules.target mask o)) }

  -- one item for each option of the side, with the target that the option has
  abbrev pub pre_items_by : Side → ℕ → SetOf → (Opt → Level) → List Item
  pre_items_by side mask source into = map (λ o. pre_item mask source (into o) o) (rules.choices side mask)

  -- the same with one target for all options
  abbrev pub pre_items : Side → ℕ → SetOf → Level → List Item
  pre_items side mask source targets = pre_items_by side mask source (λ _. targets)

  abbrev pub bear_item : ℕ → SetOf → Bearing → Item
  bear_item mask source b = record { formula = rules.bear mask b; sets = λ _. source }

  abbrev pub bear_items : Side → ℕ → SetOf → List Item
  bear_items side mask source = map (bear_item mask source) (rules.bearings side mask)

  -- the positions with the mask that the side's moves reach from a level
  abbrev pub image_set : Side → ℕ → ℕ → Level → Program SetOf
  image_set side ply mask level = union ply mask kind.Image (image_items side mask level)

  -- the positions of a set from which the side has a move into the target of its option, as a part of its own
  abbrev pub pre_set_by : Side → ℕ → ℕ → Part → SetOf → (Opt → Level) → Program SetOf
  pre_set_by side ply mask p source into = union ply mask p (pre_items_by side mask source into)

  -- the positions of a set from which the side has a move into a level
  abbrev pub pre_set : Side → ℕ → ℕ → Part → SetOf → Level → Program SetOf
  pre_set side ply mask p source targets = pre_set_by side ply mask p source (λ _. targets)

  -- the positions of a set in which the side is in check
  abbrev pub check_set : Side → ℕ → ℕ → SetOf → Program SetOf
  check_set side ply mask source = union ply mask kind.Check (bear_items (other side) mask source)

  abbrev pub safe_item : ℕ → SetOf → Bearing → Item
  safe_item mask source b = record { formula = rules.safe mask b; sets = λ _. source }

  -- the set narrowed by one bearing
  abbrev pub narrow_by : ℕ → ℕ → Bearing → Made → Program Made
  narrow_by ply mask b so_far = make (name ply mask kind.Safe) so_far.1 (safe_item mask so_far.0 b)

  -- the set narrowed by each of the bearings in turn, as a part of its own
  abbrev pub narrow : ℕ → ℕ → List Bearing → SetOf → Program SetOf
  narrow ply mask bearings s = do
    made ← each bearings (narrow_by ply mask) (s, 1)
    Give made.0

  -- the reached set of a ply and a mask, from what is reached at the ply before, where the side is to move
  abbrev pub reach_set : Side → ℕ → Level → ℕ → Program SetOf
  reach_set side ply level mask = do
    moved ← image_set side ply mask level
    narrow ply mask (rules.bearings (other side) mask) moved

  abbrev pub reach_level : Side → ℕ → Level → Program Level
  reach_level side ply level = for_masks rules.masks (reach_set side ply level) no_sets

  -- the kept set of a ply of the winner and a mask, from what is reached there and what is kept at the next ply
  abbrev pub win_set : Side → ℕ → Level → Level → ℕ → Program SetOf
  win_set side ply reach kept1 mask = pre_set side ply mask kind.Win (reach mask) kept1

  abbrev pub win_level : Side → ℕ → Level → Level → Program Level
  win_level side ply reach kept1 = for_masks rules.masks (win_set side ply reach kept1) no_sets

  -- the positions of a set that are lost: no option of the side leads into its target of `rests`, and the side is in check
  -- or some option leads into its target of `replies`
  abbrev pub lost_set_by : Side → ℕ → ℕ → SetOf → (Opt → Level) → (Opt → Level) → Program SetOf
  lost_set_by side ply mask source replies rests = do
    escape ← pre_set_by side ply mask kind.Escape source rests
    calm ← difference ply mask kind.Calm source escape
    check ← check_set side ply mask calm
    quiet ← difference ply mask kind.Quiet calm check
    reply ← pre_set_by side ply mask kind.Reply quiet replies
    union_of_two (rules.tracks mask) (name ply mask kind.Lost) check reply

  abbrev pub lost_set_if_by : Side → ℕ → Level → (Opt → Level) → (Opt → Level) → ℕ → Program SetOf
  lost_set_if_by side ply source replies rests mask =
      Ask (Empty (source mask ∷ [])) (Give Nothing) (lost_set_by side ply mask (source mask) replies rests)

  -- the kept set of a ply of the loser and a mask, if some position is reached there
  abbrev pub lost_set : Side → ℕ → ℕ → SetOf → Level → Level → Program SetOf
  lost_set side ply mask reach reach1 rests = lost_set_by side ply mask reach (λ _. reach1) (λ _. rests)

  -- its first two parts: the reached positions without a move into the unkept positions of the next ply
  abbrev pub calm_set : Side → ℕ → ℕ → SetOf → Level → Program SetOf
  calm_set side ply mask reach rests = do
    escape ← pre_set side ply mask kind.Escape reach rests
    difference ply mask kind.Calm reach escape

  -- its next two parts: the calm positions that are not in check and have a move
  abbrev pub reply_set : Side → ℕ → ℕ → SetOf → SetOf → Level → Program SetOf
  reply_set side ply mask calm check reach1 = do
    quiet ← difference ply mask kind.Quiet calm check
    pre_set side ply mask kind.Reply quiet reach1

  abbrev pub lost_set_if : Side → ℕ → Level → Level → Level → ℕ → Program SetOf
  lost_set_if side ply reach reach1 rests mask = lost_set_if_by side ply reach (λ _. reach1) (λ _. rests) mask

  -- the positions that are reached and not kept, at a ply and a mask
  abbrev pub rest_set : ℕ → Level → Level → ℕ → Program SetOf
  rest_set ply reach kept mask = difference ply mask kind.Rest (reach mask) (kept mask)

  -- the kept level of a ply of the loser
  abbrev pub lost_level : Side → ℕ → Level → Level → Level → Program Level
  lost_level side ply reach reach1 kept1 = do
    rests ← for_masks rules.masks (rest_set (suc ply) reach1 kept1) no_sets
    for_masks rules.masks (lost_set_if side ply reach reach1 rests) no_sets

  -- the set of the starting position alone
  abbrev pub point_set : ℕ → Program Made
  point_set mask = make (name 0 mask kind.Point) 1 (record { formula = rules.point; sets = λ _. Nothing })

  -- the level of the starting position alone
  abbrev pub point_level : ℕ → Program Level
  point_level mask = do
    made ← point_set mask
    Give (level_with no_sets mask made.0)

  -- the reached levels so far, the last ply first, with one more ply
  abbrev pub reach_more : Side → ℕ → List Level → Program (List Level)
  reach_more first ply [] = Give []
  reach_more first ply (level ∷ levels) = do
    more ← reach_level (turn_at first ply) (suc ply) level
    Give (more ∷ level ∷ levels)

  -- the reached levels of all plies up to the last, the last ply first
  abbrev pub forward : Side → ℕ → ℕ → Program (List Level)
  forward first mask zero = do
    level ← point_level mask
    Give (level ∷ [])
  forward first mask (suc ply) = do
    levels ← forward first mask ply
    reach_more first ply levels

  -- the kept level of the ply that is this number of plies before the last
  abbrev pub kept_level : Side → ℕ → ℕ → Level → Level → Level → Program Level
  kept_level first ply left reach reach1 kept1 =
      if is_even left then win_level (turn_at first ply) ply reach kept1 else lost_level (turn_at first ply) ply reach
      reach1 kept1

  -- the kept levels, the first ply first: from what is reached at a ply, what is reached at the plies before it, the
  -- last one first, what is kept at the ply, and what is kept at the plies after it
  abbrev pub backward : Side → Level → List Level → Level → List Level → Program (List Level)
  backward first reach1 [] kept1 later = Give (kept1 ∷ later)
  backward first reach1 (reach ∷ before) kept1 later = do
    level ← kept_level first (length before) (suc (length later)) reach reach1 kept1
    backward first reach before level (kept1 ∷ later)

  -- nothing is kept at the last ply
  abbrev pub backward_from : Side → List Level → Program (List Level)
  backward_from first [] = Give []
  backward_from first (reach ∷ before) = backward first reach before no_sets []

  -- the kept levels of all plies, the first ply first
  abbrev pub plan : Side → ℕ → ℕ → Program (List Level)
  plan first mask last = do
    levels ← forward first mask last
    backward_from first levels
