-- Fault lines of steps of the description of a ray.
use Rattle.std.specs.Prelude.{◌≡◌, ℕ, List, ◌++◌, false, codes}
use Rattle.std.specs.Fmt.{decimal}
use Rattle.desk_base.specs.Files.{Files}
use Rattle.desk_report.specs.Outcome.{Report, refusal_as}
use Rattle.desk_report.specs.declared.status.Status.TheVariants as is
use Rattle.desk_describe.specs.declared.ray_step.DescribeError.{DescribeError}
use Rattle.desk_describe.specs.declared.ray_step.DescribeError.TheVariants.{Over, Memory}
use Rattle.desk_describe.specs.declared.ray_step.RayPart.{RayPart}
use Rattle.desk_describe.specs.declared.ray_step.RayPart.TheVariants.{Line, Period}
use Rattle.desk_describe.specs.declared.ray_step.RayStep.{RayStep}

-- the word for the purpose of a step
abbrev pub part_word : RayPart → List ℕ
part_word Line = codes "line"
part_word Period = codes "period"

-- the fault line of a step that exceeds the budget
abbrev pub ray_step_line : RayStep → List ℕ
ray_step_line step =
    codes "over budget at describe man " ++ decimal step.man ++ codes " ray " ++ decimal step.ray ++ codes " "
    ++ part_word step.part ++ codes " " ++ decimal step.at ++ codes "\n"

-- if the error is a step that exceeds the budget, the run names it
abbrev pub NamesRayStep : DescribeError → Files → Report → Type 0
NamesRayStep error files report =
    (step : RayStep) × (error ≡ Over step) × (report ≡ refusal_as files is.Budget (ray_step_line step) false)

-- if a step exceeds the budget, this is true of it; running out of memory aside
abbrev pub StopsWith : (RayStep → Type 0) → DescribeError → Type 0
StopsWith Holds (Over step) = Holds step
StopsWith Holds Memory = Unit {0}
