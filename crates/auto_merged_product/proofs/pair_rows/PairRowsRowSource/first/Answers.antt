use Rattle.std.proofs.Common.{refl}
use Rattle.auto_core.specs.Automaton.{first_state}
use Rattle.auto_walk.proofs.WalkLemmas.{IsReached-first}
use Rattle.auto_bool.proofs.SideLemmas.{CanBeRead-side, Reads-side}
use Rattle.auto_merged_product.proofs.PairSpots.{IsRowSpot-pair}
use Rattle.auto_merged_product.proofs.pair_rows.PairRowsRowSource.first.Goals as goal

pub returns : goal.returns
returns c =
    let left = c.args.self.now.left_side in
    let right = c.args.self.now.right_side in
    IsRowSpot-pair _ _ (c.first_node.result, c.first_node-2.result)
    (record {
      left = CanBeRead-side _ _ _ left _ _ c.first_node.ensures.known c.first_node.ensures.narrow;
      right = CanBeRead-side _ _ _ right _ _ c.first_node-2.ensures.known c.first_node-2.ensures.narrow;
    })
    (Reads-side _ _ _ left _ _ (first_state c.args.self.now.factors.left.now) c.first_node.ensures.map)
    (Reads-side _ _ _ right _ _ (first_state c.args.self.now.factors.right.now) c.first_node-2.ensures.map) (λ letter. refl)
    (λ letter below. IsReached-first _ letter below)
