use Rattle.std.proofs.Common.{ap}
use Rattle.letter_diagram.specs.Diagram.{map_at}
use Rattle.letter_diagram.proofs.Canonical.{node-from_map_below}
use Rattle.letter_diagram.proofs.laws.equal_maps_are_equal_nodes.Goals as goal

pub returns : goal.returns
returns c = λ shapes is a b ka kb. (λ e letter below. ap (λ n. map_at shapes n letter) e, λ same. node-from_map_below shapes is a b ka kb same)
