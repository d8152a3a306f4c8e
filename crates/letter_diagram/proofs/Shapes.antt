-- `==` of shapes decides `≡`.
use Rattle.std.proofs.Common.{◌≡◌, Bool, true, arith}
use Rattle.std.proofs.lemmas.Grind.{common_steps}
use Rattle.letter_diagram.specs.declared.diagrams.Shape.{Shape}
use Rattle.letter_diagram.specs.declared.diagrams.Shape.TheVariants.{Leaf, Test}
use Rattle.letter_diagram.specs.contracts.diagrams.ShapePartialEq.TheImpl.{ghosts as shape_ghosts}

abbrev pub shape_eq : Shape → Shape → Bool
shape_eq = shape_ghosts.eq

pub shape_eq-true : (a b : Shape) → shape_eq a b ≡ true → a ≡ b
shape_eq-true (Leaf v) (Leaf w) h = grind (arith, common_steps, h)
shape_eq-true (Leaf v) (Test t l r) h = cc
shape_eq-true (Test t l r) (Leaf v) h = cc
shape_eq-true (Test t l r) (Test u m s) h = grind (arith, common_steps, h)

pub shape_eq-refl : (a : Shape) → shape_eq a a ≡ true
shape_eq-refl (Leaf v) = grind (arith, common_steps)
shape_eq-refl (Test t l r) = grind (arith, common_steps)
