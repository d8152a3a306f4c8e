use Rattle.std.proofs.Common.{◌≢◌, ◌∙◌, ℕ, AllPairs, subst, List, get_or, arith}
use Rattle.auto_bool.specs.Both.{place_of_pair}
use Rattle.auto_bool.proofs.PairLemmas.{IsRow-paired, Extends-pairs, place_in}
use Rattle.auto_shift.specs.Shifting.{AbsorbsNothing}
use Rattle.auto_shift.proofs.ShiftRows.{IsShifted-kept, HasNodes-kept, Reads-row_at, Reads-next, turned_at, by_bit-known, Reads-map}
use Rattle.auto_shift.proofs.ShiftStates.{states_in, pair-kept}
use Rattle.auto_shift.proofs.pair_walk.ShiftPairsWalk.next_row.Goals as goal

pub index-stays-requires : goal.index-stays-requires
index-stays-requires c =
    let states = states_in _ _ _ _ _ c.args.self.now.is_shifted.has_nodes.valid (c.as_slice.ensures ∙ c.pairs.ensures) c.requires.known c.requires.numbered in
    let known = states.kept in
    let size = c.args.self.now.is_shifted.are_turned.size in
    omega (arith, known, size)

pub index-goes_on-requires : goal.index-goes_on-requires
index-goes_on-requires c =
    let states = states_in _ _ _ _ _ c.args.self.now.is_shifted.has_nodes.valid (c.as_slice.ensures ∙ c.pairs.ensures) c.requires.known c.requires.numbered in
    let known = states.moved in
    let size = c.args.self.now.is_shifted.are_turned.size in
    omega (arith, known, size)

pub choose-requires-clause-low_known : goal.choose-requires-clause-low_known
choose-requires-clause-low_known c =
    let states = states_in _ _ _ _ _ c.args.self.now.is_shifted.has_nodes.valid (c.as_slice.ensures ∙ c.pairs.ensures) c.requires.known c.requires.numbered in
    let rows = c.args.self.now.is_shifted.are_turned in
    let stays = turned_at _ _ rows states.kept c.index-stays.ensures in
    let goes_on = turned_at _ _ rows states.moved c.index-goes_on.ensures in
    (by_bit-known _ stays.known goes_on.known c.by_bit-low.ensures).0

pub choose-requires-clause-high_known : goal.choose-requires-clause-high_known
choose-requires-clause-high_known c =
    let states = states_in _ _ _ _ _ c.args.self.now.is_shifted.has_nodes.valid (c.as_slice.ensures ∙ c.pairs.ensures) c.requires.known c.requires.numbered in
    let rows = c.args.self.now.is_shifted.are_turned in
    let stays = turned_at _ _ rows states.kept c.index-stays.ensures in
    let goes_on = turned_at _ _ rows states.moved c.index-goes_on.ensures in
    (by_bit-known _ stays.known goes_on.known c.by_bit-low.ensures).1

pub row_node-requires : goal.row_node-requires
row_node-requires c =
    let states = states_in _ _ _ _ _ c.args.self.now.is_shifted.has_nodes.valid (c.as_slice.ensures ∙ c.pairs.ensures) c.requires.known c.requires.numbered in
    states.kept

pub invariant_of-self : goal.invariant_of-self
invariant_of-self c = record {
  is_shifted = IsShifted-kept c.choose.ensures.grows c.args.self.now.is_shifted;
  absorbs_nothing = rw c.choose.ensures.absorbing c.args.self.now.absorbs_nothing;
}

pub invariant_of-self-2 : goal.invariant_of-self-2
invariant_of-self-2 c = record {
  is_shifted = IsShifted-kept c.apply.ensures.grows (IsShifted-kept c.choose.ensures.grows c.args.self.now.is_shifted);
  absorbs_nothing = rw (c.apply.ensures.absorbing, c.choose.ensures.absorbing) c.args.self.now.absorbs_nothing;
}

pub returns-in_err-node-clause-kept : goal.returns-in_err-node-clause-kept
returns-in_err-node-clause-kept c = Extends-pairs (rw c.choose.ensures.pairs at c.apply.ensures.pairs)

pub returns-clause-row : goal.returns-clause-row
returns-clause-row c =
    let states = states_in _ _ _ _ _ c.args.self.now.is_shifted.has_nodes.valid (c.as_slice.ensures ∙ c.pairs.ensures) c.requires.known c.requires.numbered in
    let rows = c.args.self.now.is_shifted.are_turned in
    let stays = turned_at _ _ rows states.kept c.index-stays.ensures in
    let goes_on = turned_at _ _ rows states.moved c.index-goes_on.ensures in
    let choice = c.in_ok-turned.ensures in
    let made = c.in_ok-node.ensures in
    let kept = Reads-row_at _ _ (HasNodes-kept choice.grows c.args.self.now.is_shifted.has_nodes) _ _ states.kept c.row_node.ensures.is in
    let moved = Reads-next _ c.args.self.now.auto.now _ _ _ _ c.args.self.now.is_shifted.track_low c.by_bit-low.ensures stays goes_on choice.known choice.map in
    let nothing : AbsorbsNothing c.choose.new.self.absorbing = rw choice.absorbing c.args.self.now.absorbs_nothing in
    record {
      place = place_of_pair (get_or c.as_slice.result.now c.args.number (0, 0));
      is = place_in _ _ _ (c.as_slice.ensures ∙ c.pairs.ensures) c.requires.known;
      row =
          IsRow-paired _ _ _ _ _ (Reads-map kept) (Reads-map moved) (λ letter. pair-kept _ _ nothing) made.known made.map (rw choice.pairs at made.answers)
          (subst (λ (l : List (ℕ × ℕ)). AllPairs (λ p q. p ≢ q) l) c.pairs-2.ensures c.len.ensures.unrepeated);
    }

pub returns-clause-kept : goal.returns-clause-kept
returns-clause-kept c = Extends-pairs (rw c.choose.ensures.pairs at c.apply.ensures.pairs)
