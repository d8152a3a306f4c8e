-- Paths of options, and the positions after them.
use Rattle.std.specs.Prelude.{◌≡◌, ℕ, List, [], ◌∷◌, ◌++◌, map, length, ℤ, pos, Contains, Some}
use Rattle.game_rules.specs.declared.men.Man.{Man}
use Rattle.game_rules.specs.declared.men.Ray.{Ray}
use Rattle.game_rules.specs.declared.men.Side.{Side}
use Rattle.game_rules.specs.declared.men.Square.{Square}
use Rattle.game_rules.specs.Game.{Legal, Position, StandsOn, man_at, other}
use Rattle.game_rules.specs.Rays.{IsAt, ray_of}
use Rattle.track_word.specs.Tracks.{Values}
use Rattle.lin_formula.specs.Tree.{Tree}
use Rattle.rule_formula.specs.declared.opt.Bearing.{Bearing}
use Rattle.rule_formula.specs.declared.opt.Opt.{Opt}
use Rattle.rule_formula.specs.Bearings.{bearings_of}
use Rattle.rule_formula.specs.Fits.{target_of}
use Rattle.mask_sets.specs.Stock.{mask_of}
use Rattle.rule_formula.specs.Meaning.{Takes}
use Rattle.rule_formula.specs.Options.{options_of}
use Rattle.rule_formula.specs.Placed.{is_live, placed}
use Rattle.rule_formula.specs.Seats.{var}
use Rattle.rule_formula.specs.Trees.{ray_at}
use Rattle.line_formula.specs.declared.leg.Leg.{Leg}
use Rattle.line_formula.specs.Places.{home, place}
use Rattle.line_formula.specs.Rules.{bear, capture_parts, clear_parts, distance_as, safe_parts}

abbrev pub leg_of : List Man → Opt → Leg
leg_of men o = record { man = o.man; ray = ray_at men o.man o.ray }

-- the legs of a path, which is a list of options, last one first
abbrev pub legs_of : List Man → List Opt → List Leg
legs_of men s = map (leg_of men) s

abbrev pub mask_after : ℕ → List Opt → ℕ
mask_after mask [] = mask
mask_after mask (o ∷ s) = target_of (mask_after mask s) o

abbrev pub turn_after : Side → List Opt → Side
turn_after turn [] = turn
turn_after turn (o ∷ s) = other (turn_after turn s)

-- a legal move by the option with this distance leads from q to r
pub record GoesBy (o : Opt) (t : ℤ) (q r : Position) : Type 0 where
  pub man : Man
  pub ray : Ray
  pub from : Square
  pub to : Square
  pub steps : ℕ
  pub is_man : man_at q o.man ≡ Some man
  pub is_ray : ray_of man.kind man.side o.ray ≡ Some ray
  pub stands : StandsOn man from
  pub distance : t ≡ pos steps
  pub leads : IsAt ray steps from to
  pub takes : Takes o.taken q to
  pub legal : Legal q o.man to r

module _ (p : Position) where
  -- the live men after the path, and the side to move
  abbrev pub mask_at : List Opt → ℕ
  mask_at s = mask_after (mask_of p) s

  abbrev pub turn_at : List Opt → Side
  turn_at s = turn_after p.turn s

  abbrev pub legs_at : List Opt → List Leg
  legs_at s = legs_of p.men s

  -- the position after the path, if the moves have these distances
  abbrev pub after : List Opt → Values → Position
  after s v = placed p.men (is_live (mask_at s)) (turn_at s) (place (home p.men) (legs_at s) v)

  -- the options of the side to move after the path
  abbrev pub options_at : List Opt → List Opt
  options_at s = options_of p.men (mask_at s) (turn_at s)

  -- the possible attacks of the other side on the king of the side to move
  abbrev pub threats_at : List Opt → List Bearing
  threats_at s = bearings_of p.men (mask_at s) (other (turn_at s))

  -- the possible attacks of the side to move on the other king, which is in danger if the last move was illegal
  abbrev pub dangers_at : List Opt → List Bearing
  dangers_at s = bearings_of p.men (mask_at s) (turn_at s)

  -- the attack's man attacks the king after the path
  abbrev pub bear_after : List Opt → Bearing → Tree
  bear_after s b =
      bear (home p.men) (legs_at s) (is_live (mask_at s)) (length p.men) (ray_at p.men b.man b.ray) b.man b.king

  -- the first part of a move by the option after the path
  abbrev pub first_part : List Opt → Opt → Tree
  first_part s o = distance_as (home p.men) (ray_at p.men o.man o.ray).far (var (length s))

  -- the further parts
  abbrev pub further_parts : List Opt → Opt → List Tree
  further_parts s o =
      capture_parts (home p.men) (legs_at s) (leg_of p.men o) o.taken
      ++ (clear_parts (home p.men) (legs_at s) (leg_of p.men o) (is_live (mask_at s)) o.taken (length p.men)
      ++ safe_parts (home p.men) (legs_at (o ∷ s)) p.men (is_live (mask_at (o ∷ s))) (dangers_at (o ∷ s)))

  -- each move of the path is by an option and legal, in order, if they have these distances
  abbrev pub Plays : List Opt → Values → Type 0
  Plays [] v = Unit {0}
  Plays (o ∷ s) v =
      Plays s v × Contains (options_at s) o × GoesBy o (v (length s)) (after s v) (after (o ∷ s) v)
