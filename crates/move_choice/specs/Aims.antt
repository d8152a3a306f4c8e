-- Conditions on the sets, the men who may move, and the coordinates along a man's ray.
use Rattle.std.specs.Prelude.{◌≡◌, ◌≢◌, ◌↔◌, ℕ, ◌+◌, ◌≤◌, List, ℤ, slice_set, MatchOption, Option, Some}
use Rattle.auto_core.specs.Automaton.{Automaton}
use Rattle.auto_core.specs.Integers.{IsAccepted}
use Rattle.auto_search.specs.TupleRay.{value_after}
use Rattle.auto_search.specs.declared.tuple_ray.TupleRay.{TupleRay}
use Rattle.chess_game.specs.Unsoundness.{StandsAt}
use Rattle.chess_game.specs.Way.{IsFree, IsHit, IsInside}
use Rattle.chess_game.specs.declared.way.Frame.{Frame}
use Rattle.game_rules.specs.Game.{InCheck, Position, StandsOn, Step, man_at}
use Rattle.game_rules.specs.Rays.{ray_of}
use Rattle.game_rules.specs.declared.men.Man.{Man}
use Rattle.game_rules.specs.declared.men.Place.TheVariants.{Gone}
use Rattle.game_rules.specs.declared.men.Ray.{Ray}
use Rattle.game_rules.specs.declared.men.Side.{Side}
use Rattle.game_rules.specs.declared.men.Square.{Square}
use Rattle.mask_sets.specs.Places.{coordinates_before}
use Rattle.mask_sets.specs.Sets.{IsAskable, IsIn, Table}
use Rattle.game_laws.specs.Stock.{HasStock}
use Rattle.mask_sets.specs.Tuple.{tuple_of}

-- any position of the men of p can be looked up, and the sets contain no position that a step from p reaches and that
-- leaves the mover's king attacked
pub record AreNext (p : Position) (sets : Table) : Type 0 where
  pub askable : (q : Position) → HasStock p.men q → IsAskable sets q
  pub legal : (i : ℕ) (z : Square) (q : Position) → Step p i z q → IsIn sets q → InCheck q p.turn → ⊥

-- the man is live and belongs to the side
abbrev pub IsLiveOf : Side → Man → Type 0
IsLiveOf s m = (m.side ≡ s) × (m.place ≢ Gone)

-- man i is a live man of the side to move, and his ray number n is this one
pub record IsMover (p : Position) (i n : ℕ) (r : Ray) : Type 0 where
  pub man : Man
  pub is_man : man_at p i ≡ Some man
  pub turn : man.side ≡ p.turn
  pub square : Square
  pub stands : StandsOn man square
  pub is_ray : ray_of man.kind man.side n ≡ Some r

-- man i is a live man of the side to move, and one of his rays has this number
abbrev pub HasRay : Position → ℕ → ℕ → Type 0
HasRay p i n = (r : Ray) × IsMover p i n r

-- all live men stand in the frame
abbrev pub HoldsMen : Frame → Position → Type 0
HoldsMen f p = (i : ℕ) (z : Square) → StandsAt p i z → IsInside f z

-- the distances at which man i may go along the ray, over empty squares to an empty one of the frame, are exactly those
-- from the first to the second
abbrev pub IsFreeBetween : Position → ℕ → Ray → Frame → ℕ → ℕ → Type 0
IsFreeBetween p i r f near far = (t : ℕ) → ((near ≤ t) × (t ≤ far)) ↔ IsFree p i r f t

-- the first man that man i meets on the ray in the frame stands on the square
pub record IsMet (p : Position) (i : ℕ) (r : Ray) (f : Frame) (z : Square) : Type 0 where
  pub number : ℕ
  pub hit : IsHit p i r f number
  pub there : StandsAt p number z

-- the coordinates of the position after this man has gone t steps along the ray
abbrev pub tuple_along : Position → ℕ → Ray → ℕ → List ℤ
tuple_along p man r t =
    let x = coordinates_before p man in
    let y = coordinates_before p man + 1 in
    slice_set (slice_set (tuple_of p) x (value_after (tuple_of p) x r.dx t)) y (value_after (tuple_of p) y r.dy t)

-- the line of coordinates is that of the man along the ray
pub record IsAlong (p : Position) (man : ℕ) (r : Ray) (way : TupleRay) : Type 0 where
  pub fixed : way.fixed.now ≡ tuple_of p
  pub x_track : way.x_track ≡ coordinates_before p man
  pub y_track : way.y_track ≡ coordinates_before p man + 1
  pub dx : way.dx ≡ r.dx
  pub dy : way.dy ≡ r.dy

-- the coordinates after t steps are in the set
abbrev pub IsHitAlong : Automaton → Position → ℕ → Ray → ℕ → Type 0
IsHitAlong a p man r t = IsAccepted a (tuple_along p man r t)

-- the least number from near to far with a property
pub record IsLeast (P : ℕ → Type 0) (near far t : ℕ) : Type 0 where
  pub from : near ≤ t
  pub to : t ≤ far
  pub has : P t
  pub least : (u : ℕ) → near ≤ u → P u → t ≤ u

-- the least such number, or that there is none
abbrev pub IsLeastFound : (ℕ → Type 0) → ℕ → ℕ → Option ℕ → Type 0
IsLeastFound P near far found = MatchOption found ((t : ℕ) → near ≤ t → t ≤ far → P t → ⊥) (IsLeast P near far)
