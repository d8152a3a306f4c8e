use Rattle.std.proofs.Common.{take}
use Rattle.std.specs.List.{All}
use Rattle.line_engine.specs.Crowds.{IsNearPlace}
use Rattle.line_engine.proofs.crowd.Crowd.new.Given as goal

abbrev pub invariant-loop-man : goal.invariant-loop-man
invariant-loop-man l = All (λ m. IsNearPlace m.place) (take l.man-index l.men)
