use Rattle.std.proofs.Common.{map, take}
use Rattle.std.specs.List.{AllZip}
use Rattle.strategy_file.specs.Claims.{set_of}
use Rattle.strategy_writer.specs.KeptClaims.{as_set}
use Rattle.strategy_writer.specs.ReducedClaims.{IsReducedSet}
use Rattle.strategy_writer.proofs.kept.reduced_claim.Given as goal

abbrev pub invariant-loop-claimed : goal.invariant-loop-claimed
invariant-loop-claimed l = AllZip IsReducedSet (map set_of (take l.claimed-index l.claim.sets.items)) (map as_set l.sets.items)
