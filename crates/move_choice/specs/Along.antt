-- The moves of a man along a ray that lead into a set: their distances, their number, and the least distance.
use Rattle.std.specs.Prelude.{◌≡◌, ◌↔◌, ℕ, ◌≤◌, IsSomeAnd, MatchOption, Option, Some}
use Rattle.game_rules.specs.Game.{Position, IsEmptySquare, IsOccupiedBy, IsLiveAnd, Legal, StandsOn, man_at, other}
use Rattle.game_rules.specs.Rays.{IsAt}
use Rattle.game_rules.specs.declared.men.Man.{Man}
use Rattle.game_rules.specs.declared.men.Ray.{Ray}
use Rattle.game_rules.specs.declared.men.Square.{Square}
use Rattle.game_laws.specs.OnRay.{IsOnRay}
use Rattle.chess_game.specs.Way.{IsInside}
use Rattle.chess_game.specs.declared.way.Frame.{Frame}

-- at this distance along the ray of this number the man has a legal move, to a square with the property, that leads
-- into the set
pub record LeadsAlong (Target : Square → Type 0) (Set : Position → Type 0) (p : Position) (man ray distance : ℕ) : Type
    0 where
  pub him : Man
  pub from : Square
  pub to : Square
  pub after : Position
  pub is_man : man_at p man ≡ Some him
  pub stands : StandsOn him from
  pub on : IsOnRay him from to ray distance
  pub is_target : Target to
  pub legal : Legal p man to after
  pub is_in : Set after

-- the same, to any square of the board
abbrev pub LeadsAnywhere : (Position → Type 0) → Position → ℕ → ℕ → ℕ → Type 0
LeadsAnywhere Set p man ray distance = LeadsAlong (λ z. Unit {0}) Set p man ray distance

-- the same, to a square of the frame
abbrev pub LeadsInside : Frame → (Position → Type 0) → Position → ℕ → ℕ → ℕ → Type 0
LeadsInside frame Set p man ray distance = LeadsAlong (IsInside frame) Set p man ray distance

-- the same, to an empty square
abbrev pub QuietAlong : (Position → Type 0) → Position → ℕ → ℕ → ℕ → Type 0
QuietAlong Set p man ray distance = LeadsAlong (IsEmptySquare p) Set p man ray distance

-- the same, to a square with a man of the other side
abbrev pub CaptureAlong : (Position → Type 0) → Position → ℕ → ℕ → ℕ → Type 0
CaptureAlong Set p man ray distance = LeadsAlong (IsOccupiedBy p (other p.turn)) Set p man ray distance

-- the number has the property, and no lesser number has
pub record IsLeastOf (P : ℕ → Type 0) (number : ℕ) : Type 0 where
  pub has : P number
  pub least : (n : ℕ) → P n → number ≤ n

-- the least number with a property, or that there is none
abbrev pub IsLeastOrNone : (ℕ → Type 0) → Option ℕ → Type 0
IsLeastOrNone P least = MatchOption least ((n : ℕ) → P n → ⊥) (IsLeastOf P)

-- the square at this distance along the ray is empty, and so are all squares before it
pub record IsClearFrom (p : Position) (a : Square) (r : Ray) (distance : ℕ) : Type 0 where
  pub to : Square
  pub leads : IsAt r distance a to
  pub empty : (k : ℕ) (z : Square) → k ≤ distance → IsAt r k a z → IsEmptySquare p z

-- man i may go this distance along the ray, over empty squares to an empty square of the board
abbrev pub IsClear : Position → ℕ → Ray → ℕ → Type 0
IsClear p man r distance = IsSomeAnd (man_at p man) (λ m. IsLiveAnd m (λ a. IsClearFrom p a r distance))

-- man i may go at the distances from 1 to the last one, and no farther
abbrev pub IsClearTo : Position → ℕ → Ray → ℕ → Type 0
IsClearTo p man r last = (t : ℕ) → ((1 ≤ t) × (t ≤ last)) ↔ IsClear p man r t

-- man i may go at every distance
abbrev pub IsClearForever : Position → ℕ → Ray → Type 0
IsClearForever p man r = (t : ℕ) → (1 ≤ t) ↔ IsClear p man r t
