-- The men along a ray.
use Rattle.std.specs.Prelude.{◌≡◌, ℕ, ◌<◌, ◌≤◌, ◌^◌, ℤ, pos, ◌+ℤ◌, ◌*ℤ◌, ◌≤ℤ◌, unsigned_abs, List, Option, Some, None, IsSomeAnd, slice_get}
use Rattle.game_rules.specs.Game.{IsDirection, IsLiveAnd, after_steps}
use Rattle.game_rules.specs.Rays.{IsAt}
use Rattle.game_rules.specs.declared.men.Man.{Man}
use Rattle.game_rules.specs.declared.men.Ray.{Ray}
use Rattle.game_rules.specs.declared.men.Square.{Square}
use Rattle.chess_game.specs.declared.way.Progression.{Progression}
use Rattle.chess_game.specs.declared.way.Frame.{Frame}
use Rattle.chess_game.specs.declared.way.Hit.{Hit}
use Rattle.chess_game.specs.declared.way.DistanceRange.{DistanceRange}
use Rattle.chess_game.specs.Way.{IsInside}

-- the ray's step is a direction
abbrev pub IsStepwise : Ray → Type 0
IsStepwise r = IsDirection r.dx r.dy

-- the man is live and stands t steps along the ray
abbrev pub StandsOff : Ray → Square → Man → ℕ → Type 0
StandsOff r a m t = IsLiveAnd m (IsAt r t a)

-- the distance is one of the span
abbrev pub IsIn : DistanceRange → ℕ → Type 0
IsIn s t = (s.first ≤ t) × (t ≤ s.last)

-- the start and both limits are at most 2 ^ 63 in absolute value
pub record IsShort (x : Progression) : Type 0 where
  pub at : unsigned_abs x.at ≤ 2 ^ 63
  pub low : unsigned_abs x.low ≤ 2 ^ 63
  pub high : unsigned_abs x.high ≤ 2 ^ 63

-- after t ≥ 1 steps the coordinate has this value, which lies within the limits
abbrev pub IsWithin : Progression → ℤ → ℕ → Type 0
IsWithin x z t = (1 ≤ t) × (x.low ≤ℤ z) × (z ≤ℤ x.high)

-- the coordinate after t steps lies within the limits
abbrev pub IsWithinAfter : Progression → ℕ → Type 0
IsWithinAfter x t = IsWithin x (x.at +ℤ (pos t *ℤ x.step)) t

-- the square t steps along the ray lies in the frame
abbrev pub IsReach : Ray → Square → Frame → ℕ → Type 0
IsReach r a f t = IsAt r t a (after_steps a t r.dx r.dy) × IsInside f (after_steps a t r.dx r.dy)

-- this man is the nearest of the men below an index, and has the least index of those at his distance
pub record IsNearestMan (ms : List Man) (n : ℕ) (a : Square) (r : Ray) (h : Hit) : Type 0 where
  pub within : h.index < n
  pub there : IsSomeAnd (slice_get ms h.index) (λ m. StandsOff r a m h.distance)
  pub nearest : (k : ℕ) (m : Man) (t : ℕ) → k < n → slice_get ms k ≡ Some m → StandsOff r a m t → h.distance ≤ t
  pub least : (k : ℕ) (m : Man) → k < h.index → slice_get ms k ≡ Some m → StandsOff r a m h.distance → ⊥

-- the nearest of the men below an index, or none if no such man stands on the ray
abbrev pub IsNearest : List Man → ℕ → Square → Ray → Option Hit → Type 0
IsNearest ms n a r None = (k : ℕ) (m : Man) (t : ℕ) → k < n → slice_get ms k ≡ Some m → StandsOff r a m t → ⊥
IsNearest ms n a r (Some h) = IsNearestMan ms n a r h
