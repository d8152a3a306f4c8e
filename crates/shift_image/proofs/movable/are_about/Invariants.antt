use Rattle.std.proofs.Common.{take, All}
use Rattle.track_word.specs.declared.tracks.Var.{Var}
use Rattle.lin_formula.specs.Tree.{free_vars}
use Rattle.lin_formula.specs.TreeOf.{tree_of}
use Rattle.lin_formula.specs.Free.{IsOneOf}
use Rattle.shift_image.proofs.movable.are_about.Given as goal

abbrev pub invariant-loop-f : goal.invariant-loop-f
invariant-loop-f l = All (λ f. (x : Var) → IsOneOf x (free_vars (tree_of f.now)) → IsOneOf x l.vars) (take l.f-index l.formulas)
