use Rattle.std.proofs.Common.{get_or, subst, arith}
use Rattle.std.specs.List.{All}
use Rattle.std.proofs.lemmas.List.{take_all}
use Rattle.auto_core.specs.Automaton.{Automaton}
use Rattle.loser_session.proofs.Rooms.{HasAtMost, sets_more}
use Rattle.loser_session.proofs.room.most_in.Goals as goal

pub loop-set-preserved : goal.loop-set-preserved
loop-set-preserved c =
    let sets = c.args.sets.now in
    let states = c.states.ensures.states in
    let here : HasAtMost c.states.result (get_or sets c.loop-set.set-index c.set-item.result) =
    subst (λ (a : Automaton). HasAtMost c.states.result a) c.set-item.is (omega (arith, states)) in
    sets_more sets c.loop-set.set-index c.set-item.result c.loop-set.most c.states.result c.max-most.result
    c.loop-set-test.true c.loop-set.invariant here c.max-most.ensures

pub returns : goal.returns
returns c =
    subst (All (HasAtMost c.loop-set.most)) (take_all c.loop-set.set-index c.args.sets.now c.loop-set-test.false) c.loop-set.invariant
