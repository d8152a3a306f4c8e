use Rattle.std.proofs.Common.{◌≡◌, ℕ, ◌+◌, ◌<◌, Some}
use Rattle.game_rules.specs.Game.{man_at}
use Rattle.game_rules.specs.declared.men.Man.{Man}
use Rattle.stock_position.specs.Soundness.{IsAttackedKing}
use Rattle.stock_position.proofs.checks.is_checked.Given as goal

abbrev pub invariant-loop-i : goal.invariant-loop-i
invariant-loop-i l = (k : ℕ) (m : Man) → k < l.i → man_at l.p (k + 1) ≡ Some m → IsAttackedKing l.p l.side m → ⊥
