-- Soundness of positions whose winner may have no king.
use Rattle.std.specs.Prelude.{◌≡◌, ◌≢◌}
use Rattle.game_rules.specs.Game.{Attacked, HasOneKing, IsLiveAnd, Position, Sound, other}
use Rattle.game_rules.specs.declared.men.Kind.TheVariants.{King}
use Rattle.game_rules.specs.declared.men.Man.{Man}
use Rattle.game_rules.specs.declared.men.Side.{Side}
use Rattle.chess_game.specs.Unsoundness.{IsBefore, IsUnsoundFor}
use Rattle.chess_game.specs.declared.unsoundness.Unsound.{Unsound}
use Rattle.chess_game.specs.declared.unsoundness.Unsound.TheVariants.{NoKing}

-- the position is sound, and the loser has exactly one king
pub record IsSoundFor (winner : Side) (p : Position) : Type 0 where
  pub sound : Sound p
  pub king : HasOneKing p (other winner)

-- This is the first reason that applies. That the winner has no king is none.
pub record IsFirstUnsoundnessFor (winner : Side) (p : Position) (e : Unsound) : Type 0 where
  pub counts : e ≢ NoKing winner
  pub holds : IsUnsoundFor p e
  pub first : (f : Unsound) → f ≢ NoKing winner → IsBefore f e → IsUnsoundFor p f → ⊥

-- the man is a king of the side whom the other side attacks
abbrev pub IsAttackedKing : Position → Side → Man → Type 0
IsAttackedKing p s m = (m.side ≡ s) × (m.kind ≡ King) × IsLiveAnd m (Attacked p (other s))
