use Rattle.std.proofs.Common.{◌≢◌, ◌∙◌, ℕ, AllPairs, subst, refl, List, get_or}
use Rattle.auto_core.specs.Automaton.{next_state}
use Rattle.auto_bool.specs.Both.{place_of_pair}
use Rattle.auto_bool.proofs.PairLemmas.{IsRow-paired, Extends-pairs, states_in, place_in}
use Rattle.auto_bool.proofs.SideLemmas.{CanBeRead-side, Reads-side}
use Rattle.auto_bool.proofs.both.BothWalk.next_row.Goals as goal

pub row_node-requires : goal.row_node-requires
row_node-requires c =
    (states_in _ _ _ _ c.args.self.now.left_side.valid c.args.self.now.right_side.valid c.args.self.now.deciding_states (c.as_slice.ensures ∙ c.pairs.ensures) c.requires.known c.requires.numbered).0

pub row_node-requires-2 : goal.row_node-requires-2
row_node-requires-2 c =
    (states_in _ _ _ _ c.args.self.now.left_side.valid c.args.self.now.right_side.valid c.args.self.now.deciding_states (c.as_slice.ensures ∙ c.pairs.ensures) c.requires.known c.requires.numbered).1

pub apply-requires-clause-read : goal.apply-requires-clause-read
apply-requires-clause-read c = record {
  left = CanBeRead-side _ _ _ c.args.self.now.left_side _ _ c.row_node.ensures.known c.row_node.ensures.narrow;
  right = CanBeRead-side _ _ _ c.args.self.now.right_side _ _ c.row_node-2.ensures.known c.row_node-2.ensures.narrow;
}

pub invariant_of-self : goal.invariant_of-self
invariant_of-self c = record {
  are_tracks = c.args.self.now.are_tracks;
  left_side = rw c.apply.ensures.sides c.args.self.now.left_side;
  right_side = rw c.apply.ensures.sides c.args.self.now.right_side;
  deciding_states = rw c.apply.ensures.sides c.args.self.now.deciding_states;
}

pub returns-in_err-node-clause-kept : goal.returns-in_err-node-clause-kept
returns-in_err-node-clause-kept c = Extends-pairs c.apply.ensures.pairs

pub returns-clause-row : goal.returns-clause-row
returns-clause-row c =
    let made = c.in_ok-node.ensures in
    let pair = get_or c.as_slice.result.now c.args.number (0, 0) in
    record {
      place = place_of_pair pair;
      is = place_in _ _ _ (c.as_slice.ensures ∙ c.pairs.ensures) c.requires.known;
      row =
          IsRow-paired _ _ _ _ _
          (Reads-side _ _ _ c.args.self.now.left_side _ _ (next_state c.args.self.now.left.now pair.0) c.row_node.ensures.map)
          (Reads-side _ _ _ c.args.self.now.right_side _ _ (next_state c.args.self.now.right.now pair.1) c.row_node-2.ensures.map) (λ letter. refl)
          made.known made.map made.answers (subst (λ (l : List (ℕ × ℕ)). AllPairs (λ p q. p ≢ q) l) c.pairs-2.ensures c.len.ensures.unrepeated);
    }

pub returns-clause-kept : goal.returns-clause-kept
returns-clause-kept c = Extends-pairs c.apply.ensures.pairs
