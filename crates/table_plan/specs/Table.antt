-- The plan of a table: of all positions of a stock of men, up to translation of the board.
use Rattle.std.specs.Prelude.{ℕ, zero, suc, ◌%◌, ◌==◌, if◌then◌else◌, List, [], ◌∷◌, map, ℤ, pos}
use Rattle.track_word.specs.declared.tracks.Var.{Var}
use Rattle.track_word.specs.declared.atoms.Rel.TheVariants.{Eq}
use Rattle.game_rules.specs.Game.{Position, other}
use Rattle.game_rules.specs.declared.men.Ray.{Ray}
use Rattle.game_rules.specs.declared.men.Side.{Side}
use Rattle.lin_formula.specs.Tree.{Tree}
use Rattle.lin_formula.specs.Tree as tree
use Rattle.lin_formula.specs.SetOf.{SetOf, Nothing}
use Rattle.rule_formula.specs.declared.opt.Opt.{Opt}
use Rattle.rule_formula.specs.declared.opt.ManPair.{ManPair}
use Rattle.rule_formula.specs.Bearings.{king_number}
use Rattle.rule_formula.specs.Pairs.{pairs_of}
use Rattle.rule_formula.specs.Seats.{elsewhere, own}
use Rattle.rule_formula.specs.Trees.{and_all, difference, ray_at}
use Rattle.set_plan.specs.Program.{Item, Give, each, ◌>>=◌}
use Rattle.set_plan.specs.Unite.{Made, make}
use Rattle.mate_plan.specs.Plan.{Level, Program, Rules, for_masks, lost_set_if_by, name, narrow, no_sets, rest_set, win_level}
use Rattle.mate_plan.specs.PlanOf.{rules_of}
use Rattle.mate_plan.specs.declared.names.Part.TheVariants as kind

-- the two men do not stand on one square
abbrev pub apart_tree : ManPair → Tree
apart_tree w =
    tree.Not
    (tree.And (difference (own w.first).x (own w.second).x Eq (pos 0))
    (difference (own w.first).y (own w.second).y Eq (pos 0)))

-- the king stands on the square 0 0, and no two live men on one square
abbrev pub place_tree : Position → ℕ → ℕ → Tree
place_tree p king mask =
    and_all (tree.And (tree.Value (own king).x (pos 0)) (tree.Value (own king).y (pos 0)))
    (map apart_tree (pairs_of p.men mask))

abbrev pub place_item : Position → ℕ → ℕ → Item
place_item p king mask = record { formula = place_tree p king mask; sets = λ _. Nothing }

-- the component of the ray's step for a variable: odd variables are y coordinates
abbrev pub shift_of : Ray → Var → ℤ
shift_of r x = if x.0 % 2 == 0 then r.dx else r.dy

-- one variable in the place of another
abbrev pub in_place : Var → Var → Var → Var
in_place x u y = if y.0 == x.0 then u else y

-- the tuples of a set with the value of one variable increased by d
abbrev pub shift_tree : List Var → Var → ℤ → Tree
shift_tree tracks x d =
    tree.Ex elsewhere.x
    (tree.And (tree.Among 0 (map (in_place x elsewhere.x) tracks)) (difference x elsewhere.x Eq d))

abbrev pub shift_item : List Var → Var → ℤ → SetOf → Item
shift_item tracks x d s = record { formula = shift_tree tracks x d; sets = λ _. s }

-- the results for some numbers, one after the other
abbrev pub with_number : {A : Type 0} → (ℕ → Program A) → ℕ → (ℕ → A) → Program (ℕ → A)
with_number f n so_far = do
  a ← f n
  Give (λ k. if k == n then a else so_far k)

abbrev pub for_numbers : {A : Type 0} → List ℕ → (ℕ → Program A) → (ℕ → A) → Program (ℕ → A)
for_numbers numbers f so_far = each numbers (with_number f) so_far

-- a set for each mask and each ray of the king, by the number of the ray
abbrev pub MovedLevel : Type 0
MovedLevel = ℕ → ℕ → SetOf

-- the sets of some rays, and the number of the next step
abbrev pub MovedSets : Type 0
MovedSets = (ℕ → SetOf) × ℕ

-- consecutive numbers from one on
abbrev pub numbers_from : ℕ → ℕ → List ℕ
numbers_from k zero = []
numbers_from k (suc count) = k ∷ numbers_from (suc k) count

-- the numbers of a king's rays
abbrev pub king_rays : List ℕ
king_rays = numbers_from 0 8

module _ (rules : Rules) where
  -- the set with one variable shifted, with no step if the ray does not change the variable
  abbrev pub shift_by : ℕ → ℕ → Var → ℤ → Made → Program Made
  shift_by ply mask x (pos zero) made = Give made
  shift_by ply mask x d made =
      make (name ply mask kind.Moved) made.1 (shift_item (rules.tracks mask) x d made.0)

  abbrev pub shift_track : ℕ → ℕ → Ray → Var → Made → Program Made
  shift_track ply mask r x made = shift_by ply mask x (shift_of r x) made

  -- the positions of a set, moved by one step along the ray, by steps from the one of this number on
  abbrev pub moved_set : ℕ → ℕ → Ray → ℕ → SetOf → Program Made
  moved_set ply mask r at s = each (rules.tracks mask) (shift_track ply mask r) (s, at)

  -- the moved sets so far, and that of one more ray
  abbrev pub with_ray : ℕ → ℕ → (ℕ → Ray) → SetOf → ℕ → MovedSets → Program MovedSets
  with_ray ply mask rays s n so_far = do
    made ← moved_set ply mask (rays n) so_far.1 s
    Give (λ k. if k == n then made.0 else so_far.0 k, made.1)

  -- the set moved by one step along each of the rays, one after the other, as a part of its own: its steps are numbered
  -- through all rays
  abbrev pub moved_sets : ℕ → (ℕ → Ray) → Level → ℕ → Program (ℕ → SetOf)
  moved_sets ply rays level mask = do
    all ← each king_rays (with_ray ply mask rays (level mask)) (λ n. Nothing, 1)
    Give all.0

  -- the level moved by one step along each of the rays
  abbrev pub moved_levels : ℕ → (ℕ → Ray) → Level → Program MovedLevel
  moved_levels ply rays level = for_numbers rules.masks (moved_sets ply rays level) (λ mask n. Nothing)

  -- the target of an option: for a step of the king, the level that is moved with him
  abbrev pub into_by : ℕ → Level → MovedLevel → Opt → Level
  into_by king level moved o = if o.man == king then (λ mask. moved mask o.ray) else level

-- all positions: with the winner to move, with the loser to move, and the former moved by each step of the loser's king
pub record Universe : Type 0 where
  pub winner : Level
  pub loser : Level
  pub moved : MovedLevel

-- what is won within some number of moves, and what is lost within it
pub record Row : Type 0 where
  pub won : Level
  pub lost : Level

module _ (winner : Side) (p : Position) where
  abbrev pub rules : Rules
  rules = rules_of p

  abbrev pub loser : Side
  loser = other winner

  -- the loser's king
  abbrev pub king : ℕ
  king = king_number p.men loser

  abbrev pub ray : ℕ → Ray
  ray n = ray_at p.men king n

  -- all positions with this side to move and this mask, in which the loser's king stands on 0 0
  abbrev pub all_set : Side → ℕ → ℕ → Program SetOf
  all_set side ply mask = do
    made ← make (name ply mask kind.Place) 1 (place_item p king mask)
    narrow rules ply mask (rules.bearings side mask) made.0

  abbrev pub all_level : Side → ℕ → Program Level
  all_level side ply = for_masks rules.masks (all_set side ply) no_sets

  abbrev pub universe : Program Universe
  universe = do
    ours ← all_level winner 0
    theirs ← all_level loser 1
    moved ← moved_levels rules 0 ray ours
    Give (record { winner = ours; loser = theirs; moved = moved })

  -- what is lost within k moves of the winner, from what he wins within k
  abbrev pub lost_level : ℕ → Universe → Level → Program Level
  lost_level k u won = do
    rests ← for_masks rules.masks (rest_set rules k u.winner won) no_sets
    moved ← moved_levels rules (suc k) ray rests
    for_masks rules.masks
        (lost_set_if_by rules loser k u.loser (into_by rules king u.winner u.moved) (into_by rules king rests moved)) no_sets

  -- a row, from what is won
  abbrev pub row : ℕ → Universe → Level → Program Row
  row k u won = do
    lost ← lost_level k u won
    Give (record { won = won; lost = lost })

  abbrev pub next_row : ℕ → Universe → Row → Program Row
  next_row k u before = do
    won ← win_level rules winner k u.winner before.lost
    row k u won

  abbrev pub with_next : ℕ → Universe → List Row → Program (List Row)
  with_next k u [] = Give []
  with_next k u (before ∷ rows) = do
    next ← next_row k u before
    Give (next ∷ before ∷ rows)

  -- the rows of 0 to k moves, the last one first
  abbrev pub rows_to : Universe → ℕ → Program (List Row)
  rows_to u zero = do
    first ← row 0 u no_sets
    Give (first ∷ [])
  rows_to u (suc k) = do
    rows ← rows_to u k
    with_next (suc k) u rows

  -- the table of all positions of the stock, up to this number of moves of the winner
  abbrev pub table : ℕ → Program (List Row)
  table last = do
    u ← universe
    rows_to u last
