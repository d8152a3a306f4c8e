-- Two formulas combined by a connective.
use Rattle.lin_formula.specs.Tree as tree
use Rattle.lin_formula.specs.Tree.{Tree}
use Rattle.lin_formula.specs.TreeOf.{tree_of}
use Rattle.auto_bool.specs.declared.connective.Connective.{Connective}
use Rattle.auto_bool.specs.declared.connective.Connective.TheVariants.{And, Or, AndNot}
use Rattle.formula_auto.specs.declared.pair.FormulaPair.{FormulaPair}

-- the conjunction or disjunction of both, or the conjunction of the first and the negation of the second
abbrev pub connect : Connective → Tree → Tree → Tree
connect And f g = tree.And f g
connect Or f g = tree.Or f g
connect AndNot f g = tree.And f (tree.Not g)

abbrev pub connected : FormulaPair → Tree
connected pair = connect pair.connective (tree_of pair.left.now) (tree_of pair.right.now)
