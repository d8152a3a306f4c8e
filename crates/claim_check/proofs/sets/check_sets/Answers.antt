use Rattle.claim_check.proofs.LosersPlies.{plies_there}
use Rattle.claim_check.proofs.sets.check_sets.Goals as goal

pub first_failing-requires : goal.first_failing-requires
first_failing-requires c = record {
  fits = tt;
  items = plies_there c.bench-bench.ensures.ready.claim c.args.plies.now c.requires;
}
