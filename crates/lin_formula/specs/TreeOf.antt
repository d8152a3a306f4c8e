-- The tree of a formula.
use Rattle.lin_formula.specs.Tree.{Tree}
use Rattle.lin_formula.specs.Tree as tree
use Rattle.lin_formula.specs.declared.formula.Formula.{Formula}
use Rattle.lin_formula.specs.declared.formula.Formula.TheVariants.{Lin, Value, Among, Not', And', Or', Ex'}

abbrev pub tree_of : Formula → Tree
tree_of (Lin terms rel bound) = tree.Lin terms rel bound
tree_of (Value x n) = tree.Value x n
tree_of (Among set vars) = tree.Among set.0 vars
tree_of (Not' p f) = tree.Not (tree_of f)
tree_of (And' p f q g) = tree.And (tree_of f) (tree_of g)
tree_of (Or' p f q g) = tree.Or (tree_of f) (tree_of g)
tree_of (Ex' x p f) = tree.Ex x (tree_of f)
