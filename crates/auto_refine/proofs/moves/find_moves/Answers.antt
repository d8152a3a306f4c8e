use Rattle.std.proofs.Common.{arith, ◌≡◌, ◌∙◌, get_or, subst, inl, inr}
use Rattle.std.proofs.lemmas.Bool.{cases_lt}
use Rattle.std.proofs.lemmas.List.{get_or_default}
use Rattle.auto_refine.specs.Moves.{MovesIfOther}
use Rattle.auto_refine.proofs.moves.find_moves.Goals as goal

pub loop-state-preserved : goal.loop-state-preserved
loop-state-preserved c =
    let nodes = c.args.nodes.now in
    let candidates = c.args.candidates.now in
    record {
      moves = c.in_ok-sort_state.ensures.moves;
      moved = λ turn less other. elim (cases_lt turn c.loop-state.state-index) [
        | inl before ↦ c.in_ok-sort_state.ensures.kept _ (c.loop-state.invariant.moved turn before other)
        | inr past ↦
            let same : c.loop-state.state-index ≡ turn = omega (arith, less, past) in
            subst (λ n. MovesIfOther c.args.partition.now c.args.listing.now nodes c.sort_state.new.moves (get_or candidates n 0)) same
            c.in_ok-sort_state.ensures.moved other
      ];
    }

pub returns-clause-moved : goal.returns-clause-moved
returns-clause-moved c = λ state there other.
    let nodes = c.args.nodes.now in
    let candidates = c.args.candidates.now in
    let end = c.loop-state.auto.state-index-end in
    let less = there.1 in
    let is : get_or candidates there.0 0 ≡ state = get_or_default candidates there.0 0 state there.1 ∙ there.2 in
    subst (MovesIfOther c.args.partition.now c.args.listing.now nodes c.loop-state.moves) is
    (c.loop-state.invariant.moved there.0 (omega (arith, less, end, c.loop-state-test.false))) other
