use Rattle.std.proofs.Common.{◌≢◌, ℕ, AllPairs, subst, refl, List}
use Rattle.auto_core.specs.Automaton.{first_state}
use Rattle.auto_bool.proofs.PairLemmas.{IsRow-paired}
use Rattle.auto_bool.proofs.SideLemmas.{CanBeRead-side, Reads-side}
use Rattle.auto_bool.proofs.both.BothWalk.first_row.Goals as goal

pub apply-requires-clause-read : goal.apply-requires-clause-read
apply-requires-clause-read c = record {
  left = CanBeRead-side _ _ _ c.args.self.now.left_side _ _ c.first_node.ensures.known c.first_node.ensures.narrow;
  right = CanBeRead-side _ _ _ c.args.self.now.right_side _ _ c.first_node-2.ensures.known c.first_node-2.ensures.narrow;
}

pub invariant_of-self : goal.invariant_of-self
invariant_of-self c = record {
  are_tracks = c.args.self.now.are_tracks;
  left_side = rw c.apply.ensures.sides c.args.self.now.left_side;
  right_side = rw c.apply.ensures.sides c.args.self.now.right_side;
  deciding_states = rw c.apply.ensures.sides c.args.self.now.deciding_states;
}

pub returns-clause-row : goal.returns-clause-row
returns-clause-row c =
    let made = c.in_ok-node.ensures in
    IsRow-paired _ _ _ _ _
    (Reads-side _ _ _ c.args.self.now.left_side _ _ (first_state c.args.self.now.left.now) c.first_node.ensures.map)
    (Reads-side _ _ _ c.args.self.now.right_side _ _ (first_state c.args.self.now.right.now) c.first_node-2.ensures.map) (λ letter. refl)
    made.known made.map made.answers (subst (λ (l : List (ℕ × ℕ)). AllPairs (λ p q. p ≢ q) l) c.pairs.ensures c.len.ensures.unrepeated)
