use Rattle.std.proofs.Common.{take, All}
use Rattle.lin_formula.specs.Free.{IsOneOf}
use Rattle.shift_image.proofs.movable.are_among.Given as goal

abbrev pub invariant-loop-var : goal.invariant-loop-var
invariant-loop-var l = All (λ x. IsOneOf x l.vars) (take l.var-index l.some)
