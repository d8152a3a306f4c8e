use Rattle.std.proofs.Common.{◌<◌, subst}
use Rattle.std.specs.List.{All}
use Rattle.auto_refine.proofs.stale.stale_states.Goals as goal

pub returns : goal.returns
returns c =
    let found = c.as_slice.ensures.value in
    record {
      within = subst (λ n. All (λ state. state < n) c.in_ok-stale.stale.items) c.requires.partition.states c.in_ok-stale.ensures.within;
      rest = λ state letter known shared below there. (rw found at c.in_ok-stale.ensures.all) state (c.in_ok-found.ensures.all state letter known below there) shared;
    }
