use Rattle.std.proofs.Common.{◌≡◌, ◌++◌}
use Rattle.rule_formula.specs.Options.{rays_to}
use Rattle.line_formula.proofs.choices.push_rays.Given as goal

abbrev pub invariant-loop-ray : goal.invariant-loop-ray
invariant-loop-ray l = l.options.items ≡ l.initial.options.items ++ rays_to l.men l.force.mask l.force.side l.mover.kind l.mover.man l.ray
