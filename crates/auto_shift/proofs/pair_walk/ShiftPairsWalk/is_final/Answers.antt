use Rattle.std.proofs.Common.{◌∙◌, get_or}
use Rattle.auto_bool.specs.Both.{place_of_pair}
use Rattle.auto_bool.proofs.PairLemmas.{place_in}
use Rattle.auto_shift.proofs.ShiftStates.{states_in}
use Rattle.auto_shift.proofs.pair_walk.ShiftPairsWalk.is_final.Goals as goal

pub accept_of-requires : goal.accept_of-requires
accept_of-requires c =
    (states_in _ _ _ _ _ c.args.self.now.is_shifted.has_nodes.valid (c.as_slice.ensures ∙ c.pairs.ensures) c.requires.known c.requires.numbered).moved

pub returns : goal.returns
returns c = (
  place_of_pair (get_or c.as_slice.result.now c.args.number (0, 0)),
  place_in _ _ _ (c.as_slice.ensures ∙ c.pairs.ensures) c.requires.known,
  c.accept_of.ensures,
)
