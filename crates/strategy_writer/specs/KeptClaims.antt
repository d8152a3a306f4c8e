-- The claim of a solved position, as contracts see it.
use Rattle.std.specs.Prelude.{map}
use Rattle.mate_plan.specs.Claim.{Claim, ClaimedSet}
use Rattle.strategy_writer.specs.declared.kept_claim.KeptClaim.{KeptClaim}
use Rattle.strategy_writer.specs.declared.kept_claim.KeptSet.{KeptSet}

abbrev pub as_set : KeptSet → ClaimedSet
as_set s = record { ply = s.ply; mask = s.mask; set = s.set }

abbrev pub as_claim : KeptClaim → Claim
as_claim c = record { position = c.position; winner = c.winner; moves = c.moves; sets = map as_set c.sets.items }
