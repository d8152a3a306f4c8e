use Rattle.std.proofs.Common.{arith, ◌<◌, length, get_or, refl}
use Rattle.std.proofs.lemmas.Option.{slice_get_read}
use Rattle.std.proofs.lemmas.List.Elements.{All-get_or}
use Rattle.auto_predecessors.proofs.Climbs.{MarksMore-trans, AreListedBelow-all, AreStarted-more, AreStarted-from}
use Rattle.auto_predecessors.proofs.ways.mark_leaves.Goals as goal

pub mark_all-requires : goal.mark_all-requires
mark_all-requires c =
    let states = c.args.states.now in
    let leaves = c.args.leaves.now in
    let index = c.loop-state.state-index in
    let within = All-get_or (λ state. state < length leaves) states index 0 c.loop-state-test.true c.requires.states in
    rw (c.as_slice.ensures, c.loop-state.invariant.more.size) (AreListedBelow-all (get_or states index 0) c.index-leaves-state.result c.requires.leaves
    (slice_get_read leaves _ (get_or states index 0) c.index-leaves-state.result refl within c.index-leaves-state.is))

pub loop-state-preserved : goal.loop-state-preserved
loop-state-preserved c =
    let states = c.args.states.now in
    let leaves = c.args.leaves.now in
    let index = c.loop-state.state-index in
    let within = All-get_or (λ state. state < length leaves) states index 0 c.loop-state-test.true c.requires.states in
    let before = c.loop-state.invariant in
    let e = c.in_ok-mark_all.ensures in
    record {
      more = MarksMore-trans before.more e.more;
      started = AreStarted-more states leaves c.loop-state.marks c.mark_all.new.marks index c.index-leaves-state.result before.started (λ place on. e.more.kept place on)
          (slice_get_read leaves _ (get_or states index 0) c.index-leaves-state.result refl within c.index-leaves-state.is) (rw c.as_slice.ensures at e.marked);
    }

pub returns-clause-started : goal.returns-clause-started
returns-clause-started c =
    let end = c.loop-state.auto.state-index-end in
    AreStarted-from c.args.states.now c.args.leaves.now c.loop-state.marks (λ k place less. c.loop-state.invariant.started k place (omega (arith, less, end, c.loop-state-test.false)))
