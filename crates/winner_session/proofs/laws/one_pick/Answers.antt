use Rattle.std.proofs.Common.{suc}
use Rattle.winning_sets.specs.Claimed.{IsHeld}
use Rattle.move_choice.proofs.Once.{pick_once}
use Rattle.winner_session.proofs.laws.one_pick.Goals as goal

pub returns : goal.returns
returns c = λ g. pick_once (IsHeld g.solution (suc g.ply)) g.frame g.position
