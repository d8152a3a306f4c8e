-- Whether the winner of a problem mates within a number of moves, and whether the plan that decides it is within the
-- budget.
use Rattle.std.specs.Prelude.{◌≡◌, ◌⊎◌, ℕ, ◌≤◌, List, ◌++◌, length, Result, IfErr, codes}
use Rattle.std.specs.Fmt.{decimal}
use Rattle.limits.specs.declared.numbers.TheConstants.{MOST_MOVES}
use Rattle.game_rules.specs.Game.{HasBothKings, Sound, Value}
use Rattle.mate_plan.specs.PlanOf.{plan_of}
use Rattle.winning_sets.specs.Solve.{IsWithin, IsSolveError}
use Rattle.winning_sets.specs.declared.names.SolveError.{SolveError}
use Rattle.winning_sets.specs.declared.names.SolveError.TheVariants as solve_error
use Rattle.winning_sets.specs.declared.names.StepName.{StepName}
use Rattle.desk_base.specs.Files.{Files}
use Rattle.desk_report.specs.Outcome.{FirstOver, Report}
use Rattle.desk_verdict.specs.StepLines.{budget_line}
use Rattle.desk_text.specs.declared.problem.Problem.{Problem}
use Rattle.desk_text.specs.declared.problem.Task.{Task}

-- the two lines of a verdict
abbrev pub mate_line : ℕ → List ℕ
mate_line n = codes "mate in " ++ decimal n ++ codes "\n"

abbrev pub no_mate_line : ℕ → List ℕ
no_mate_line n = codes "no mate in " ++ decimal n ++ codes "\n"

-- the line says whether the winner mates within n moves of his own, whatever the replies
abbrev pub IsVerdict : ℕ → Problem → List ℕ → Type 0
IsVerdict n problem line =
    ((line ≡ mate_line n) × Value problem.winner n problem.position)
    ⊎ ((line ≡ no_mate_line n) × (Value problem.winner n problem.position → ⊥))

-- no step of the plan of a mate within n moves exceeds the budget
abbrev pub FitsBudget : Problem → ℕ → ℕ → Type 0
FitsBudget problem budget n = IsWithin (plan_of problem.winner problem.position n) budget

-- the step is the first one of that plan that exceeds the budget
abbrev pub ExceedsAt : Problem → ℕ → ℕ → StepName → Type 0
ExceedsAt problem budget n step =
    IsSolveError (plan_of problem.winner problem.position n) n budget (solve_error.Over step)

-- The first step of that plan that exceeds the budget is named, or no step does and this is reported.
abbrev pub WithinBudget : (n budget : ℕ) → Problem → (reports : Report → Type 0) → Files → Report → Type 0
WithinBudget n budget problem reports =
    FirstOver budget_line (ExceedsAt problem budget n) (λ report. FitsBudget problem budget n × reports report)

-- if a step exceeds the budget, this is true of it
abbrev pub IfOver : {A : Type 0} → Result A SolveError → (StepName → Type 0) → Type 0
IfOver result Holds = IfErr result (λ error. (step : StepName) → error ≡ solve_error.Over step → Holds step)

-- it is the winner's turn, and he has no moves left to make
pub record HasNothingToPlay (moves : ℕ) (problem : Problem) : Type 0 where
  pub none : moves ≡ 0
  pub turn : problem.position.turn ≡ problem.winner

-- the task has something to compute, for which memory may run out
abbrev pub HasSomeToPlay : Task → Type 0
HasSomeToPlay task = ¬ HasNothingToPlay task.moves task.problem

-- the relation, of the moves, the budget and the problem of a task
abbrev pub OfTask : {A : Type 1} → (ℕ → ℕ → Problem → A) → Task → A
OfTask this task = this task.moves task.budget task.problem

-- the position is sound, with a king on each side, and the number of moves is within its limit
pub record IsTask (task : Task) : Type 0 where
  pub sound : Sound task.problem.position
  pub kings : HasBothKings task.problem.position
  pub moves : task.moves ≤ MOST_MOVES
