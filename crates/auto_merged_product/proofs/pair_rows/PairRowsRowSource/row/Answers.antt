use Rattle.std.proofs.Common.{refl, get_or, map}
use Rattle.auto_core.specs.Automaton.{next_state}
use Rattle.auto_walk.proofs.WalkLemmas.{All-at, IsReached-next}
use Rattle.auto_walk.specs.Walker.{IsReached}
use Rattle.auto_bool.specs.Absorbed.{absorbing_walker}
use Rattle.auto_bool.specs.Both.{place_of_pair}
use Rattle.auto_bool.proofs.PairLemmas.{states_in, place_in}
use Rattle.auto_bool.proofs.SideLemmas.{CanBeRead-side, Reads-side}
use Rattle.auto_merged_product.proofs.PairSpots.{IsRowSpot-pair}
use Rattle.auto_merged_product.proofs.pair_rows.PairRowsRowSource.row.Goals as goal

pub row_node-requires : goal.row_node-requires
row_node-requires c =
    (states_in _ _ _ _ c.args.self.now.left_side.valid c.args.self.now.right_side.valid c.args.self.now.deciding_states c.as_slice.ensures c.requires.known
    (record { reached = c.requires.seen.are_places; different = c.requires.seen.different })).0

pub row_node-requires-2 : goal.row_node-requires-2
row_node-requires-2 c =
    (states_in _ _ _ _ c.args.self.now.left_side.valid c.args.self.now.right_side.valid c.args.self.now.deciding_states c.as_slice.ensures c.requires.known
    (record { reached = c.requires.seen.are_places; different = c.requires.seen.different })).1

pub returns : goal.returns
returns c =
    let left = c.args.self.now.left_side in
    let right = c.args.self.now.right_side in
    let pair = get_or c.as_slice.result.now c.args.number (0, 0) in
    let is = place_in _ _ _ c.as_slice.ensures c.requires.known in
    let walker =
    absorbing_walker c.args.self.now.sides.absorbing c.args.self.now.tracks.items c.args.self.now.factors.left.now c.args.self.now.factors.right.now c.args.self.now.factors.connective in
    let reached : IsReached walker (place_of_pair pair) = All-at (IsReached walker) (map place_of_pair c.args.seen.now) c.args.number (place_of_pair pair) is c.requires.seen.are_places in
    record {
      place = place_of_pair pair;
      is = is;
      row =
          IsRowSpot-pair _ _ (c.row_node.result, c.row_node-2.result)
          (record {
            left = CanBeRead-side _ _ _ left _ _ c.row_node.ensures.known c.row_node.ensures.narrow;
            right = CanBeRead-side _ _ _ right _ _ c.row_node-2.ensures.known c.row_node-2.ensures.narrow;
          })
          (Reads-side _ _ _ left _ _ (next_state c.args.self.now.factors.left.now pair.0) c.row_node.ensures.map)
          (Reads-side _ _ _ right _ _ (next_state c.args.self.now.factors.right.now pair.1) c.row_node-2.ensures.map) (λ letter. refl)
          (λ letter below. IsReached-next walker {place = place_of_pair pair} letter below reached);
    }
