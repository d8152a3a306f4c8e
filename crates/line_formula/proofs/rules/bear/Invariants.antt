use Rattle.std.proofs.Common.{◌≡◌}
use Rattle.lin_formula.specs.Tree as tree
use Rattle.lin_formula.specs.TreeOf.{tree_of}
use Rattle.rule_formula.specs.Placed.{is_live}
use Rattle.rule_formula.specs.Trees.{clear, ray_at}
use Rattle.line_formula.specs.Places.{home}
use Rattle.line_formula.specs.Rules.{ahead, line, screens}
use Rattle.line_formula.proofs.rules.bear.Given as goal

abbrev pub invariant-loop-n : goal.invariant-loop-n
invariant-loop-n l =
    tree_of l.chain ≡ clear (tree.And (line (home l.scene.men.now) l.scene.legs.now (ray_at l.scene.men.now l.bearing.man l.bearing.ray) l.bearing.man l.bearing.king)
    (ahead (home l.scene.men.now) l.scene.legs.now (ray_at l.scene.men.now l.bearing.man l.bearing.ray) l.bearing.man l.bearing.king))
    (screens (home l.scene.men.now) l.scene.legs.now (ray_at l.scene.men.now l.bearing.man l.bearing.ray) l.bearing.man l.bearing.king)
    (is_live l.mask) l.bearing.man l.bearing.king l.n
