-- Offsets from one square to another.
use Rattle.std.specs.Prelude.{◌≡◌, ℕ, ◌<◌, ℤ, pos, ◌*ℤ◌}
use Rattle.game_rules.specs.Game.{IsDirection}

-- the offset (ox, oy) is t times (dx, dy)
pub record IsTimes (dx dy ox oy : ℤ) (t : ℕ) : Type 0 where
  pub positive : 0 < t
  pub right : ox ≡ pos t *ℤ dx
  pub up : oy ≡ pos t *ℤ dy

-- equal steps in one direction lead to the offset (ox, oy), and fewer of them to (ex, ey)
pub record IsPart (ox oy ex ey : ℤ) : Type 0 where
  pub dx : ℤ
  pub dy : ℤ
  pub direction : IsDirection dx dy
  pub whole : ℕ
  pub part : ℕ
  pub fewer : part < whole
  pub to_whole : IsTimes dx dy ox oy whole
  pub to_part : IsTimes dx dy ex ey part
