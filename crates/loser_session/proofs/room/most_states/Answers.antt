use Rattle.std.proofs.Common.{subst, arith}
use Rattle.std.specs.List.{All}
use Rattle.loser_session.proofs.Rooms.{HasAtMost, plies_have_more}
use Rattle.loser_session.proofs.room.most_states.Goals as goal

pub loop-ply-preserved : goal.loop-ply-preserved
loop-ply-preserved c =
    let here = subst (All (HasAtMost c.most_in.result)) c.sets_into.ensures c.most_in.ensures in
    plies_have_more c.args.solved.now c.args.plies.now c.loop-ply.ply c.loop-ply.most c.most_in.result c.max-most.result c.loop-ply.invariant here c.max-most.ensures

pub returns : goal.returns
returns c = λ ply less.
    let past = c.loop-ply-test.false in
    let last = c.last_ply-last.ensures in
    c.loop-ply.invariant ply (omega (arith, less, past, last))
