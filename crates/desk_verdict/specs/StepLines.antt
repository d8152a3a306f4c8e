-- Fault lines of steps of a plan.
use Rattle.std.specs.Prelude.{◌≡◌, ℕ, List, ◌++◌, false, codes}
use Rattle.std.specs.Fmt.{decimal}
use Rattle.desk_base.specs.Files.{Files}
use Rattle.mate_plan.specs.declared.names.Part.{Part}
use Rattle.mate_plan.specs.declared.names.Part.TheVariants as part
use Rattle.winning_sets.specs.declared.names.SolveError.{SolveError}
use Rattle.winning_sets.specs.declared.names.SolveError.TheVariants.{Over}
use Rattle.winning_sets.specs.declared.names.StepName.{StepName}
use Rattle.desk_report.specs.Outcome.{Report, refusal_as}
use Rattle.desk_report.specs.declared.status.Status.TheVariants as is

-- the word for a part of a plan
abbrev pub part_word : Part → List ℕ
part_word part.Point = codes "point"
part_word part.Image = codes "image"
part_word part.Safe = codes "safe"
part_word part.Win = codes "win"
part_word part.Rest = codes "rest"
part_word part.Escape = codes "escape"
part_word part.Calm = codes "calm"
part_word part.Check = codes "check"
part_word part.Quiet = codes "quiet"
part_word part.Reply = codes "reply"
part_word part.Lost = codes "lost"
part_word part.Same = codes "same"
part_word part.Guard = codes "guard"
part_word part.First = codes "first"
part_word part.Answer = codes "answer"
part_word part.Left = codes "left"
part_word part.Stale = codes "stale"
part_word part.Place = codes "place"
part_word part.Moved = codes "moved"

-- the fault line of a step that exceeds the budget
abbrev pub budget_line : StepName → List ℕ
budget_line step =
    codes "over budget at moves " ++ decimal step.moves ++ codes " ply " ++ decimal step.ply ++ codes " men "
    ++ decimal step.mask
    ++ codes " part " ++ part_word step.part ++ codes " at " ++ decimal step.at ++ codes "\n"

-- a run that names this step, which exceeds the budget, and leaves these files
abbrev pub over_budget : Files → StepName → Report
over_budget files step = refusal_as files is.Budget (budget_line step) false

-- if the error is a step that exceeds the budget, the run names it
abbrev pub NamesStep : SolveError → Files → Report → Type 0
NamesStep error files report = (step : StepName) × (error ≡ Over step) × (report ≡ over_budget files step)
