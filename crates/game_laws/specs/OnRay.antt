-- Steps and attacks along a ray of the table.
use Rattle.std.specs.Prelude.{◌≡◌, ℕ, Some, IsTrue}
use Rattle.game_rules.specs.Game.{Position, IsOccupiedBy, IsEmptySquare, IsOpen, other}
use Rattle.game_rules.specs.Rays.{IsAlong, IsAt, ray_of, serves_captures, serves_moves}
use Rattle.game_rules.specs.declared.men.Man.{Man}
use Rattle.game_rules.specs.declared.men.Ray.{Ray}
use Rattle.game_rules.specs.declared.men.Square.{Square}

-- ray number n of the man goes from a to z in k steps
pub record IsOnRay (m : Man) (a z : Square) (n k : ℕ) : Type 0 where
  pub ray : Ray
  pub is_ray : ray_of m.kind m.side n ≡ Some ray
  pub leads : IsAt ray k a z

-- exactly one ray of the man goes from a to z, at one distance, past no man; it serves moves if z is empty, and
-- captures if the other side holds z
pub record IsOnOneRay (p : Position) (m : Man) (a z : Square) : Type 0 where
  pub number : ℕ
  pub distance : ℕ
  pub on : IsOnRay m a z number distance
  pub only : (n k : ℕ) → IsOnRay m a z n k → (n ≡ number) × (k ≡ distance)
  pub clear : IsTrue on.ray.far → IsOpen p a z
  pub move : IsEmptySquare p z → IsTrue (serves_moves m.kind number)
  pub capture : IsOccupiedBy p (other m.side) z → IsTrue (serves_captures m.kind number)

-- a ray of the man that serves captures goes from a to z, past no man
pub record IsBorneAlong (p : Position) (m : Man) (a z : Square) : Type 0 where
  pub number : ℕ
  pub ray : Ray
  pub is_ray : ray_of m.kind m.side number ≡ Some ray
  pub serves : IsTrue (serves_captures m.kind number)
  pub along : IsAlong ray a z
  pub clear : IsTrue ray.far → IsOpen p a z
