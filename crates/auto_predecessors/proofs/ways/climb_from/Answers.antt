use Rattle.std.proofs.Common.{◌<◌, length, All, subst}
use Rattle.auto_predecessors.proofs.Climbs.{AreStarted-kept, found_above}
use Rattle.auto_predecessors.proofs.ways.climb_from.Goals as goal

pub returns : goal.returns
returns c =
    let r = c.requires.ways in
    let w = c.args.ways.now in
    let states = c.args.states.now in
    let found = c.in_ok-found.found.items in
    let started = rw c.as_slice.ensures.value at c.in_ok-mark_leaves.ensures.started in
    let climbed = rw (c.as_slice-2.ensures.value, c.as_slice-3.ensures.value) at c.in_ok-found.ensures.climbed in
    let within = rw c.as_slice-3.ensures.value at c.in_ok-found.ensures.within in
    let kept = AreStarted-kept c.climb.new.marks c.in_ok-found.ensures.kept started in
    record {
      within = subst (λ n. All (λ state. state < n) found) r.placed.size (within (length r.rows) r.owners.below);
      all = found_above r kept climbed;
    }
