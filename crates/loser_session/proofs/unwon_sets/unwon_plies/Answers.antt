use Rattle.std.proofs.Common.{◌≡◌, ◌+◌, ℕ, List, sym, subst, arith}
use Rattle.auto_core.specs.Automaton.{Automaton}
use Rattle.winning_sets.specs.Solve.{end_of}
use Rattle.loser_session.specs.Unwon.{AreUnwonTo}
use Rattle.loser_session.proofs.UnwonParts.{no_plies, plies_more}
use Rattle.loser_session.proofs.unwon_sets.unwon_plies.Goals as goal

pub loop-ply-init : goal.loop-ply-init
loop-ply-init c = (subst (λ (plies : List (List Automaton)). AreUnwonTo c.args.solved.now 0 plies) (sym c.new-plies.ensures.items) (no_plies c.args.solved.now), omega arith)

pub loop-ply-preserved : goal.loop-ply-preserved
loop-ply-preserved c =
    let s = c.args.solved.now in
    let n = c.loop-ply.ply in
    let less = c.loop-ply-test.true in
    let last = c.last_ply-last.ensures in (
      subst (λ (plies : List (List Automaton)). AreUnwonTo s (n + 1) plies) (sym c.in_ok-push.ensures.items)
          (plies_more s n c.loop-ply.plies.items c.in_ok-sets.sets c.loop-ply.invariant.0 c.in_ok-sets.ensures),
      omega (arith, less, last),
    )

pub returns : goal.returns
returns c =
    let s = c.args.solved.now in
    let past = c.loop-ply-test.false in
    let low = c.loop-ply.invariant.1 in
    let last = c.last_ply-last.ensures in
    let at : c.loop-ply.ply ≡ end_of s = omega (arith, past, low, last) in
    subst (λ (n : ℕ). AreUnwonTo s n c.loop-ply.plies.items) at c.loop-ply.invariant.0
