use Rattle.std.proofs.Common.{sym, ap, ◌∙◌}
use Rattle.std.specs.Option.{option_map}
use Rattle.lin_formula.specs.TreeOf.{tree_of}
use Rattle.lin_formula.specs.SetOf.{members}
use Rattle.rule_formula.proofs.PointTheorem.{point_made, point_means}
use Rattle.rule_formula.proofs.SizeTheorem.{point_modest, point_names}
use Rattle.rule_formula.proofs.point.point_formula.Goals as goal

pub unreachable-requires : goal.unreachable-requires
unreachable-requires c = point_made c.args.p.now c.requires (sym c.in_ok-f.ensures.tree ∙ ap (option_map tree_of) c.in-None.is)

pub returns-clause-tree : goal.returns-clause-tree
returns-clause-tree c = sym c.in_ok-f.ensures.tree ∙ ap (option_map tree_of) c.in-Some.is

pub returns-clause-means : goal.returns-clause-means
returns-clause-means c e = point_means c.args.p.now.men (tree_of c.in-Some.f) (sym c.in_ok-f.ensures.tree ∙ ap (option_map tree_of) c.in-Some.is) (members e)

pub returns-clause-modest : goal.returns-clause-modest
returns-clause-modest c = point_modest c.args.p.now.men (tree_of c.in-Some.f) c.in_ok-f.ensures.few (sym c.in_ok-f.ensures.tree ∙ ap (option_map tree_of) c.in-Some.is)

pub returns-clause-names : goal.returns-clause-names
returns-clause-names c = point_names c.args.p.now.men (tree_of c.in-Some.f) c.in_ok-f.ensures.few (sym c.in_ok-f.ensures.tree ∙ ap (option_map tree_of) c.in-Some.is)
