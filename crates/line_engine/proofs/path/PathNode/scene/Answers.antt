use Rattle.std.proofs.Common.{arith}
use Rattle.line_engine.proofs.StepLemmas.{node_legs}
use Rattle.line_engine.proofs.path.PathNode.scene.Goals as goal

pub invariant_of-result : goal.invariant_of-result
invariant_of-result c =
    let node = c.args.self.now in
    let legs = node_legs node in
    record {
      is = record {
        few_men = node.crowd.is.most;
        near = node.crowd.is.near;
        small = legs.small;
        few_legs = let within = legs.within in let few = legs.few in omega (arith, within, few);
      };
    }
