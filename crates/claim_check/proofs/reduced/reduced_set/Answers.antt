use Rattle.strategy_file.specs.ClaimedAutos.{automaton_in}
use Rattle.claim_check.proofs.ReducedSets.{reduced_of}
use Rattle.claim_check.proofs.reduced.reduced_set.Goals as goal

pub returns : goal.returns
returns c =
    let is = c.in_ok-set.ensures in
    let m = c.in_ok-reduced.ensures in
    reduced_of (automaton_in c.args.claimed.set) c.in_ok-set.set is.tracks is.first is.next is.accept m.tracks m.words m.reduced m.fewer
