use Rattle.std.proofs.Common.{◌≡◌, ap, rules, IsTrue}
use Rattle.letter_diagram.specs.Diagram.{map_at, IsDiagram}
use Rattle.letter_diagram.proofs.Canonical.{node-from_map_below}
use Rattle.letter_diagram.proofs.diagrams.Diagrams.same_map.Goals as goal

pub returns-clause-map : goal.returns-clause-map
returns-clause-map c =
    let equal : (IsTrue c.eq.result → c.args.a ≡ c.args.b) × (c.args.a ≡ c.args.b → IsTrue c.eq.result) = search rules in
    let is : IsDiagram c.args.self.now = rw (← c.self.view_is) c.self.invariant in
    (λ t letter below. ap (λ n. map_at c.args.self.now n letter) (equal.0 t), λ same. equal.1 (node-from_map_below _ is c.args.a c.args.b c.requires.a_known c.requires.b_known same))
