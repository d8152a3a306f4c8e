use Rattle.std.proofs.Common.{inl}
use Rattle.game_laws.proofs.ValueLemmas.{at_once}
use Rattle.game_laws.proofs.laws.lost_at_once_is_mate.Goals as goal

pub returns : goal.returns
returns c = λ winner q. (at_once winner q, λ h. (h.0, inl h.1))
