use Rattle.std.proofs.Common.{refl, get_or}
use Rattle.auto_bool.specs.Both.{place_of_pair}
use Rattle.auto_bool.proofs.PairLemmas.{states_in, place_in}
use Rattle.auto_merged_product.proofs.pair_rows.PairRowsRowSource.is_final.Goals as goal

pub accept_of-requires : goal.accept_of-requires
accept_of-requires c =
    (states_in _ _ _ _ c.args.self.now.left_side.valid c.args.self.now.right_side.valid c.args.self.now.deciding_states c.as_slice.ensures c.requires.known
    (record { reached = c.requires.seen.are_places; different = c.requires.seen.different })).0

pub accept_of-requires-2 : goal.accept_of-requires-2
accept_of-requires-2 c =
    (states_in _ _ _ _ c.args.self.now.left_side.valid c.args.self.now.right_side.valid c.args.self.now.deciding_states c.as_slice.ensures c.requires.known
    (record { reached = c.requires.seen.are_places; different = c.requires.seen.different })).1

pub returns : goal.returns
returns c = (
  place_of_pair (get_or c.as_slice.result.now c.args.number (0, 0)),
  place_in _ _ _ c.as_slice.ensures c.requires.known,
  rw (c.of.ensures, c.accept_of.ensures, c.accept_of-2.ensures) refl,
)
