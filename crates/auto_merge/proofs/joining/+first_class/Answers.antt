use Rattle.std.proofs.Common.{◌≡◌, ℕ, Option, Some, None, List, IfSome, ◌∙◌}
use Rattle.letter_diagram.specs.declared.diagrams.Shape.{Shape}
use Rattle.letter_diagram.specs.Diagram.{map_at}
use Rattle.auto_merge.specs.Merging.{LeadsToClass}
use Rattle.auto_merge.proofs.joining.+first_class.Goals as goal

-- what a child leads to
from_child : (shapes : List Shape) (key child : ℕ) (found : Option ℕ) → ((letter : ℕ) → (l : ℕ) × (map_at shapes key l ≡ map_at shapes child letter))
    → IfSome found (LeadsToClass shapes child) → IfSome found (LeadsToClass shapes key)
from_child shapes key child (Some class) values to = let v = values to.letter in record { letter = v.0; leads = v.1 ∙ to.leads; is_class = to.is_class }
from_child shapes key child None values to = to

pub returns-in-Some-clause-some : goal.returns-in-Some-clause-some
returns-in-Some-clause-some t c =
    from_child c.args.shapes.now c.args.key c.in-Test.low (Some c.in-Some.class) (λ letter. (c.in-Test.ensures.children letter).0) c.in-Some.ensures.some

pub returns-in-None-clause-some : goal.returns-in-None-clause-some
returns-in-None-clause-some t c =
    from_child c.args.shapes.now c.args.key c.in-Test.high c.first_class-in-None.result (λ letter. (c.in-Test.ensures.children letter).1) c.first_class-in-None.ensures.some
