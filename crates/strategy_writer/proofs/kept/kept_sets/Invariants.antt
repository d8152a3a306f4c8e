use Rattle.std.proofs.Common.{◌≡◌, map, take, All}
use Rattle.strategy_writer.specs.KeptClaims.{as_set}
use Rattle.strategy_writer.specs.SolvedFile.{IsOfKeptSet}
use Rattle.strategy_writer.proofs.kept.kept_sets.Given as goal

abbrev pub invariant-loop-ply : goal.invariant-loop-ply
invariant-loop-ply l = record {
  places : map (λ s. (s.ply, s.mask)) l.sets.items ≡ take l.ply-index l.places;
  sets : All (λ s. IsOfKeptSet l.solved (as_set s)) l.sets.items;
}
