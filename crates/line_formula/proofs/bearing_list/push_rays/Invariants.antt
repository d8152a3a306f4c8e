use Rattle.std.proofs.Common.{◌≡◌, ◌++◌}
use Rattle.rule_formula.specs.Bearings.{along_rays}
use Rattle.line_formula.proofs.bearing_list.push_rays.Given as goal

abbrev pub invariant-loop-ray : goal.invariant-loop-ray
invariant-loop-ray l = l.bearings.items ≡ l.initial.bearings.items ++ along_rays l.kind l.man l.king l.ray
