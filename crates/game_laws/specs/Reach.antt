-- The squares that a man reaches from his square on an otherwise empty board.
use Rattle.std.specs.Prelude.{◌≡◌, ℤ, ◌-ℤ◌, ◌⊎◌, max, unsigned_abs}
use Rattle.game_rules.specs.Game.{Position, IsDiagonal, IsLeap, IsLeaps, IsLiveAnd, IsOpen, IsStraight, forward}
use Rattle.game_rules.specs.declared.men.Kind.{Kind}
use Rattle.game_rules.specs.declared.men.Kind.TheVariants.{King, Queen, Rook, Bishop, Knight, Pawn, Chancellor, Archbishop, Amazon, Nightrider}
use Rattle.game_rules.specs.declared.men.Man.{Man}
use Rattle.game_rules.specs.declared.men.Side.{Side}
use Rattle.game_rules.specs.declared.men.Square.{Square}

-- the offset is one at which the man bears on a square if no man is in between
abbrev pub HasReach : Side → Kind → ℤ → ℤ → Type 0
HasReach s King dx dy = max (unsigned_abs dx) (unsigned_abs dy) ≡ 1
HasReach s Queen dx dy = IsStraight dx dy ⊎ IsDiagonal dx dy
HasReach s Rook dx dy = IsStraight dx dy
HasReach s Bishop dx dy = IsDiagonal dx dy
HasReach s Knight dx dy = IsLeap dx dy
HasReach s Pawn dx dy = (unsigned_abs dx ≡ 1) × (dy ≡ forward s)
HasReach s Chancellor dx dy = IsStraight dx dy ⊎ IsLeap dx dy
HasReach s Archbishop dx dy = IsDiagonal dx dy ⊎ IsLeap dx dy
HasReach s Amazon dx dy = (IsStraight dx dy ⊎ IsDiagonal dx dy) ⊎ IsLeap dx dy
HasReach s Nightrider dx dy = IsLeaps dx dy

-- the man is live, reaches the square, and no man is strictly between
abbrev pub ReachesOpenly : Position → Man → Square → Type 0
ReachesOpenly p m z = IsLiveAnd m (λ a. HasReach m.side m.kind (z.x -ℤ a.x) (z.y -ℤ a.y) × IsOpen p a z)
