use Rattle.letter_diagram.proofs.leaves.meet.Goals as goal
use Rattle.letter_diagram.proofs.Passes.{Meets-insert}
use Rattle.letter_diagram.proofs.leaves.meet.Goals.{in-Some+else-earlier-letter, in_default}
use Rattle.std.proofs.Common.{arith}
use Rattle.std.proofs.lemmas.Grind.{common_steps}

pub returns : goal.returns
returns c = Meets-insert _ _ _ _ (λ l e. elim c.match-get.branch [
  | in-Some+else-earlier-letter w ↦ grind (arith, common_steps, e)
  | in_default w ↦ grind (arith, common_steps, e)
]) c.in_ok-insert.ensures.updates c.in_ok-insert.ensures.entries
