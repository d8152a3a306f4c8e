use Rattle.std.proofs.Common.{◌≢◌, ℕ, AllPairs, subst, List}
use Rattle.auto_bool.proofs.PairLemmas.{IsRow-paired}
use Rattle.auto_shift.proofs.ShiftRows.{IsShifted-kept, Reads-first, Reads-map}
use Rattle.auto_shift.proofs.ShiftStates.{pair-kept}
use Rattle.auto_shift.proofs.pair_walk.ShiftPairsWalk.first_row.Goals as goal

pub invariant_of-self : goal.invariant_of-self
invariant_of-self c = record {
  is_shifted = IsShifted-kept c.apply.ensures.grows c.args.self.now.is_shifted;
  absorbs_nothing = rw c.apply.ensures.absorbing c.args.self.now.absorbs_nothing;
}

pub returns-clause-row : goal.returns-clause-row
returns-clause-row c =
    let made = c.in_ok-node.ensures in
    let is = c.args.self.now.is_shifted in
    IsRow-paired _ _ _ _ _ (Reads-map (rw c.first_node.ensures.is (Reads-first _ _ is.has_nodes))) (Reads-map is.first_moved) (λ letter. pair-kept _ _ c.args.self.now.absorbs_nothing)
    made.known made.map made.answers (subst (λ (l : List (ℕ × ℕ)). AllPairs (λ p q. p ≢ q) l) c.pairs.ensures c.len.ensures.unrepeated)
