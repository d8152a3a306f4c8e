use Rattle.std.proofs.Common.{◌≡◌, inl, inr, refl, sym, ap, ◌∙◌, subst}
use Rattle.std.specs.Prelude.{Err}
use Rattle.game_rules.specs.Game.{HasBothKings}
use Rattle.desk_files.specs.Keep.{HasFileToKeep, KeepReports, kept_file}
use Rattle.desk_files.specs.Keeping.{MissesKeep}
use Rattle.desk_report.specs.Outcome.{NeverMisses, done_with}
use Rattle.desk_verdict.specs.Verdict.{FitsBudget, HasNothingToPlay, mate_line}
use Rattle.desk_files.proofs.KeptFiles.{kept_ends, solved_ends, unkept_ends}
use Rattle.desk_files.proofs.Shelves.{same_kept}
use Rattle.desk_report.proofs.Writing.{at_sink, ends_as}
use Rattle.desk_files.proofs.keep.keep.Goals as goal

pub keep_solved-requires-clause-kings : goal.keep_solved-requires-clause-kings
keep_solved-requires-clause-kings g c =
    let of = rw (c.in-Ok-Some.field-0-is, c.new-solver.ensures.problem) at c.in-Ok-Some.ensures.found in
    subst HasBothKings (sym of.position) c.requires.task.kings

pub returns-in-Ok : goal.returns-in-Ok
returns-in-Ok g c = record {
  ends = λ files kept.
      let task = c.args.task.now in
      let problem = task.problem in
      let s = c.in-Ok-Some.solved in
      let of = rw (c.in-Ok-Some.field-0-is, c.new-solver.ensures.problem) at c.in-Ok-Some.ensures.found in
      let fits : FitsBudget problem task.budget task.moves = rw (c.new-solver.ensures.problem, c.new-solver.ensures.budget) at c.in-Ok-Some.ensures.fits in
      let value = (rw (c.in-Ok-Some.field-0-is, c.new-solver.ensures.problem) at c.in-Ok-Some.ensures.won).0 refl in
      let line = c.as_slice.ensures ∙ c.verdict_line-line.ensures.won refl ∙ ap mate_line (sym of.moves_are) in
      solved_ends problem task.moves s of task.budget c.args.name.now files c.print.result _ _ fits value
      (kept_ends (kept_file s.winner s.position s.moves) c.args.name.now files _ _ kept c.print.result _ line c.in-Ok.ensures.keeps (λ after. c.print.ensures.ends after));
}

pub returns-in-Ok-Some : goal.returns-in-Ok-Some
returns-in-Ok-Some g c = record {
  ends = λ files kept.
      let task = c.args.task.now in
      let problem = task.problem in
      let s = c.in-Ok-Some.solved in
      let of = rw (c.in-Ok-Some.field-0-is, c.new-solver.ensures.problem) at c.in-Ok-Some.ensures.found in
      let fits : FitsBudget problem task.budget task.moves = rw (c.new-solver.ensures.problem, c.new-solver.ensures.budget) at c.in-Ok-Some.ensures.fits in
      let value = (rw (c.in-Ok-Some.field-0-is, c.new-solver.ensures.problem) at c.in-Ok-Some.ensures.won).0 refl in
      rw c.refuse_keeping.ensures.status
      (solved_ends problem task.moves s of task.budget c.args.name.now files _ _ _ fits value
      (unkept_ends (kept_file s.winner s.position s.moves) c.args.name.now files _ _ kept c.in-Err-keep_solved.why c.in-Err-keep_solved.ensures.keeps
      (λ e. c.in-Err-keep_solved.ensures.failed (ap Err e)) c.refuse_keeping.ensures.written));
}

pub returns-in-Ok-None : goal.returns-in-Ok-None
returns-in-Ok-None g c = record {
  ends = λ files kept.
      let task = c.args.task.now in
      let problem = task.problem in
      let fits : FitsBudget problem task.budget task.moves = rw (c.new-solver.ensures.problem, c.new-solver.ensures.budget) at c.in-Ok-None.ensures.fits in
      let won = rw (c.in-Ok-None.field-0-is, c.new-solver.ensures.problem) at c.in-Ok-None.ensures.won in
      let text = c.as_slice-in-Ok-None.result.now in
      let line = c.as_slice-in-Ok-None.ensures ∙ c.verdict_line-line-in-Ok-None.ensures.not_won (λ t. cc) in
      ends_as c.print-in-Ok-None.result (λ report. report ≡ done_with files text) (KeepReports task.moves task.budget problem c.args.name.now files) ⊥ (¬ HasNothingToPlay task.moves problem)
      NeverMisses (MissesKeep c.args.name.now (HasFileToKeep task.moves task.budget problem)) _ _
      (λ report is. inr (fits, inl (λ value. let t = won.1 value in cc, is ∙ ap (done_with files) line)))
      (λ none. absurd none) (λ keeping never. absurd never)
      (at_sink files _ _ kept (same_kept (g.H.Shelf.files c.args.shelf.now)) c.print-in-Ok-None.result (λ report. report ≡ done_with files text) ⊥ (c.print-in-Ok-None.ensures.ends files));
}

pub returns : goal.returns
returns g c = record {
  ends = λ files kept.
      let task = c.args.task.now in
      let problem = task.problem in
      ends_as c.print_error.result _ (KeepReports task.moves task.budget problem c.args.name.now files) _ (¬ HasNothingToPlay task.moves problem)
      NeverMisses (MissesKeep c.args.name.now (HasFileToKeep task.moves task.budget problem)) _ _
      (λ report step. inl (step.0, rw (c.new-solver.ensures.problem, c.new-solver.ensures.budget) at (c.in-Err.ensures.step step.0 step.1), step.2))
      (λ memory. rw c.new-solver.ensures.problem at (c.in-Err.ensures.memory (ap Err memory))) (λ keeping never. absurd never)
      (at_sink files _ _ kept (same_kept (g.H.Shelf.files c.args.shelf.now)) c.print_error.result _ _ (c.print_error.ensures.ends files));
}
