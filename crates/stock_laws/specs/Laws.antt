-- Captured men change nothing.
use Rattle.std.specs.Prelude.{◌≡◌, ◌↔◌, ℕ}
use Rattle.game_rules.specs.Game.{Position, Value}
use Rattle.game_rules.specs.declared.men.Side.{Side}
use Rattle.stock_position.specs.Live.{live_of}
use Rattle.stock_position.specs.Soundness.{IsSoundFor}

-- positions with the same live men in the same order, and the same side to move, have the same value
abbrev pub CapturedKeepsValue : Type 0
CapturedKeepsValue = (winner : Side) (n : ℕ) (p q : Position) → live_of p ≡ live_of q → Value winner n p ↔ Value winner n q

-- a position has the value of the position of its live men alone
abbrev pub LiveKeepsValue : Type 0
LiveKeepsValue = (winner : Side) (n : ℕ) (p : Position) → Value winner n p ↔ Value winner n (live_of p)

-- the position of the live men alone is sound if the position is, and the loser keeps his king
abbrev pub LiveKeepsSound : Type 0
LiveKeepsSound = (winner : Side) (p : Position) → IsSoundFor winner p → IsSoundFor winner (live_of p)
