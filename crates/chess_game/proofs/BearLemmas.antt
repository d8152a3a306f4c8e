-- A man who stands on a square bears from there.
use Rattle.std.proofs.Common.{◌↔◌, ◌-ℤ◌}
use Rattle.game_rules.specs.Game.{Position, Bears, IsOpen, StandsOn, square_of}
use Rattle.game_rules.specs.declared.men.Man.{Man}
use Rattle.game_rules.specs.declared.men.Square.{Square}
use Rattle.game_laws.specs.Reach.{HasReach}
use Rattle.game_laws.proofs.AnswerLemmas.{same_stand}
use Rattle.game_laws.proofs.OpenLemmas.{bears_openly, openly_bears}
use Rattle.game_laws.proofs.SoundLemmas.{live_at}

-- exactly where he reaches the other and nobody is in between
pub bears_at : (p : Position) (m : Man) (a z : Square) → StandsOn m a → Bears p m z ↔ (HasReach m.side m.kind (z.x -ℤ a.x) (z.y -ℤ a.y) × IsOpen p a z)
bears_at p m a z stands = (
  λ h. same_stand (square_of m) a (λ a. HasReach m.side m.kind (z.x -ℤ a.x) (z.y -ℤ a.y) × IsOpen p a z) stands (bears_openly p m z h),
  λ h.
      openly_bears p m z (live_at m a (λ a. HasReach m.side m.kind (z.x -ℤ a.x) (z.y -ℤ a.y) × IsOpen p a z) stands h),
)
