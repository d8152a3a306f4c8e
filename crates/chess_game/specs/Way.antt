-- How far a man may go along a ray.
use Rattle.std.specs.Prelude.{◌≡◌, ◌≤ℤ◌, ℕ, ◌<◌, ◌≤◌, IsSomeAnd, Some}
use Rattle.game_rules.specs.Game.{Position, IsEmptySquare, IsLiveAnd, man_at}
use Rattle.game_rules.specs.Rays.{IsAt, ray_of}
use Rattle.game_rules.specs.declared.men.Man.{Man}
use Rattle.game_rules.specs.declared.men.Ray.{Ray}
use Rattle.game_rules.specs.declared.men.Square.{Square}
use Rattle.chess_game.specs.declared.way.Frame.{Frame}
use Rattle.chess_game.specs.Unsoundness.{StandsAt}

-- the ray is one of those of the man's kind
abbrev pub IsRayOf : Man → Ray → Type 0
IsRayOf m r = (n : ℕ) × (ray_of m.kind m.side n ≡ Some r)

-- the square lies in the frame
pub record IsInside (f : Frame) (z : Square) : Type 0 where
  pub left : f.x_low ≤ℤ z.x
  pub right : z.x ≤ℤ f.x_high
  pub below : f.y_low ≤ℤ z.y
  pub above : z.y ≤ℤ f.y_high

-- the square t steps along the ray is in the frame, and no live man stands on the ray up to it
pub record IsFreeFrom (p : Position) (a : Square) (r : Ray) (f : Frame) (t : ℕ) : Type 0 where
  pub to : Square
  pub leads : IsAt r t a to
  pub inside : IsInside f to
  pub empty : (k : ℕ) (z : Square) → k ≤ t → IsAt r k a z → IsEmptySquare p z

-- man i may go t steps along his ray to an empty square of the frame, over empty squares
abbrev pub IsFree : Position → ℕ → Ray → Frame → ℕ → Type 0
IsFree p i r f t = IsSomeAnd (man_at p i) (λ m. IsLiveAnd m (λ a. IsFreeFrom p a r f t))

-- man h is the first live man on the ray, and his square is in the frame; if several men stand on it, he has the least
-- number
pub record IsHitFrom (p : Position) (a : Square) (r : Ray) (f : Frame) (h : ℕ) : Type 0 where
  pub to : Square
  pub distance : ℕ
  pub leads : IsAt r distance a to
  pub inside : IsInside f to
  pub hit : StandsAt p h to
  pub first : (k : ℕ) (z : Square) → k < distance → IsAt r k a z → IsEmptySquare p z
  pub least : (j : ℕ) → j < h → StandsAt p j to → ⊥

-- man h is the first man that man i meets on his ray in the frame
abbrev pub IsHit : Position → ℕ → Ray → Frame → ℕ → Type 0
IsHit p i r f h = IsSomeAnd (man_at p i) (λ m. IsLiveAnd m (λ a. IsHitFrom p a r f h))
