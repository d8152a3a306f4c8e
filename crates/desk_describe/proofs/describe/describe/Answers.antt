use Rattle.std.proofs.Common.{inl, inr, Err, refl, ap, subst}
use Rattle.desk_report.specs.Outcome.{NeverMisses, done_with}
use Rattle.desk_report.proofs.Writing.{ends_as, printed}
use Rattle.desk_solve.specs.First.{HasNoFirstMove}
use Rattle.desk_solve.proofs.Listing.{first_moves_left, first_turn, not_so, some_moves}
use Rattle.desk_verdict.specs.Verdict.{FitsBudget}
use Rattle.desk_describe.specs.Describe.{AreRayLines, DescribeReports, MenTell}
use Rattle.desk_describe.specs.RayStep.{StopsWith}
use Rattle.desk_describe.specs.declared.ray_step.DescribeError.{DescribeError}
use Rattle.desk_describe.proofs.Rows.{last_line, told_of_problem}
use Rattle.desk_describe.proofs.describe.describe.Goals as goal

pub returns-then-has_no_first_move : goal.returns-then-has_no_first_move
returns-then-has_no_first_move g c = record {
  ends = λ files. let task = c.args.task.now in
      printed c.print.result (DescribeReports task.moves task.budget task.problem files) _ _ _ _
      (inl (c.has_no_first_move.ensures.0 c.if-has_no_first_move.true, refl)) (c.print.ensures.ends files);
}

pub ray_lines-requires-clause-turn : goal.ray_lines-requires-clause-turn
ray_lines-requires-clause-turn g c =
    let task = c.args.task.now in
    let some = not_so (HasNoFirstMove task.moves task.problem) c.has_no_first_move.result c.has_no_first_move.ensures c.if-has_no_first_move.false in
    first_turn task.moves task.problem some c.in-Ok-Some.solved (rw (c.in-Ok-Some.field-0-is, c.new-solver.ensures.problem) at c.in-Ok-Some.ensures.found)

pub ray_lines-requires-clause-moves : goal.ray_lines-requires-clause-moves
ray_lines-requires-clause-moves g c =
    let task = c.args.task.now in
    let some = not_so (HasNoFirstMove task.moves task.problem) c.has_no_first_move.result c.has_no_first_move.ensures c.if-has_no_first_move.false in
    first_moves_left task.moves task.problem some c.in-Ok-Some.solved (rw (c.in-Ok-Some.field-0-is, c.new-solver.ensures.problem) at c.in-Ok-Some.ensures.found)

pub returns-in-Ok : goal.returns-in-Ok
returns-in-Ok g c = record {
  ends = λ files.
      let task = c.args.task.now in
      let some = not_so (HasNoFirstMove task.moves task.problem) c.has_no_first_move.result c.has_no_first_move.ensures c.if-has_no_first_move.false in
      let fits : FitsBudget task.problem task.budget task.moves = rw (c.new-solver.ensures.problem, c.new-solver.ensures.budget) at c.in-Ok-Some.ensures.fits in
      let lines =
      told_of_problem task.moves task.problem c.in-Ok-Some.solved (rw (c.in-Ok-Some.field-0-is, c.new-solver.ensures.problem) at c.in-Ok-Some.ensures.found)
      (λ winner n p. AreRayLines task.budget winner n p c.in-Ok.text.items) c.in-Ok.ensures.lines in
      printed c.print-in-Ok.result (DescribeReports task.moves task.budget task.problem files) _ _ _ (done_with files c.as_slice.result.now)
      (inr (some, inr (fits, inr (c.in-Ok.text.items, lines, ap (done_with files) c.as_slice.ensures.value)))) (c.print-in-Ok.ensures.ends files);
}

pub returns-in-Ok-Some : goal.returns-in-Ok-Some
returns-in-Ok-Some g c = record {
  ends = λ files.
      let task = c.args.task.now in
      let some = not_so (HasNoFirstMove task.moves task.problem) c.has_no_first_move.result c.has_no_first_move.ensures c.if-has_no_first_move.false in
      let fits : FitsBudget task.problem task.budget task.moves = rw (c.new-solver.ensures.problem, c.new-solver.ensures.budget) at c.in-Ok-Some.ensures.fits in
      let Stops : DescribeError → Type 0 = λ error. StopsWith (λ step. MenTell task.budget task.problem.winner task.moves task.problem.position (Err step)) error in
      let stops =
      told_of_problem task.moves task.problem c.in-Ok-Some.solved (rw (c.in-Ok-Some.field-0-is, c.new-solver.ensures.problem) at c.in-Ok-Some.ensures.found)
      (λ winner n p. StopsWith (λ step. MenTell task.budget winner n p (Err step)) c.in-Err-ray_lines.error) c.in-Err-ray_lines.ensures.stops in
      ends_as c.print_stop.result _ (DescribeReports task.moves task.budget task.problem files) _ _ NeverMisses NeverMisses _ _
      (λ report step. inr (some, inr (fits, inl (step.0, subst Stops step.1 stops, step.2))))
      (λ memory. some) (λ keeping never. never) (c.print_stop.ensures.ends files);
}

pub returns-in-Ok-None : goal.returns-in-Ok-None
returns-in-Ok-None g c = record {
  ends = λ files.
      let task = c.args.task.now in
      let some = not_so (HasNoFirstMove task.moves task.problem) c.has_no_first_move.result c.has_no_first_move.ensures c.if-has_no_first_move.false in
      let fits : FitsBudget task.problem task.budget task.moves = rw (c.new-solver.ensures.problem, c.new-solver.ensures.budget) at c.in-Ok-None.ensures.fits in
      let won = rw (c.in-Ok-None.field-0-is, c.new-solver.ensures.problem) at c.in-Ok-None.ensures.won in
      let lines = last_line task.budget task.problem.winner task.moves task.problem.position (some_moves task.moves task.problem some) (λ value. let t = won.1 value in cc) in
      printed c.print-in-Ok-None.result (DescribeReports task.moves task.budget task.problem files) _ _ _ _
      (inr (some, inr (fits, inr (_, lines, refl)))) (c.print-in-Ok-None.ensures.ends files);
}

pub returns : goal.returns
returns g c = record {
  ends = λ files.
      let task = c.args.task.now in
      let some = not_so (HasNoFirstMove task.moves task.problem) c.has_no_first_move.result c.has_no_first_move.ensures c.if-has_no_first_move.false in
      ends_as c.print_error.result _ (DescribeReports task.moves task.budget task.problem files) _ _ NeverMisses NeverMisses _ _
      (λ report step. inr (some, inl (step.0, rw (c.new-solver.ensures.problem, c.new-solver.ensures.budget) at (c.in-Err.ensures.step step.0 step.1), step.2)))
      (λ memory. some) (λ keeping never. never) (c.print_error.ensures.ends files);
}
