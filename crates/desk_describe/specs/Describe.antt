-- The report of `describe`.
use Rattle.std.specs.Prelude.{◌≡◌, ◌⊎◌, ℕ, zero, suc, List, [], ◌++◌, length, Result, Ok, Err, codes}
use Rattle.auto_core.specs.Automaton.{Automaton}
use Rattle.auto_numbers.specs.Numbers.{Has}
use Rattle.desk_base.specs.Files.{Files}
use Rattle.first_distances.specs.FirstSet.{IsFirstSet, IsRayError, RayStaysWithin}
use Rattle.formula_auto.specs.declared.errors.CompileError.TheVariants as compile_error
use Rattle.game_rules.specs.Game.{Position}
use Rattle.game_rules.specs.declared.men.Ray.{Ray}
use Rattle.game_rules.specs.declared.men.Side.{Side}
use Rattle.winner_session.specs.Firsts.{NoFirsts}
use Rattle.move_choice.specs.Aims.{IsMover}
use Rattle.period_sets.specs.Question.{IsFirstPast}
use Rattle.desk_report.specs.Outcome.{FirstOver, Report, done_with}
use Rattle.desk_solve.specs.First.{HasNoFirstMove, ray_total}
use Rattle.desk_text.specs.declared.problem.Problem.{Problem}
use Rattle.desk_verdict.specs.Verdict.{WithinBudget}
use Rattle.desk_describe.specs.Description.{IsDescription, ray_line}
use Rattle.desk_describe.specs.RayStep.{ray_step_line}
use Rattle.desk_describe.specs.declared.description.Description.{Description}
use Rattle.desk_describe.specs.declared.ray_step.RayPart.{RayPart}
use Rattle.desk_describe.specs.declared.ray_step.RayPart.TheVariants.{Line, Period}
use Rattle.desk_describe.specs.declared.ray_step.RayStep.{RayStep}

-- An automaton of the distances of the winner's first moves along a ray, and no step of the formula of these distances
-- exceeds the budget. The description depends on the distances alone.
pub record IsSetWithin (budget : ℕ) (winner : Side) (n : ℕ) (p : Position) (man ray : ℕ) (a : Automaton) : Type 0 where
  pub firsts : IsFirstSet winner n p man ray a
  pub within : RayStaysWithin winner n p man ray budget

-- the description of these distances
abbrev pub IsDescribed : (budget : ℕ) → Side → ℕ → Position → (man ray : ℕ) → Description → Type 0
IsDescribed budget winner n p man ray description =
    (a : Automaton) × IsSetWithin budget winner n p man ray a × IsDescription a budget description

-- the step of this number is the first one that exceeds the budget, in the formula of these distances, or, if none does
-- there, in the formulas by which periods are tried
abbrev pub IsFirstOver : (budget : ℕ) → Side → ℕ → Position → (man ray : ℕ) → RayPart → (at : ℕ) → Type 0
IsFirstOver budget winner n p man ray Line at = IsRayError winner n p man ray budget (compile_error.Over at)
IsFirstOver budget winner n p man ray Period at =
    (a : Automaton) × IsSetWithin budget winner n p man ray a × IsFirstPast (Has a) a budget at

-- the description of a man's ray stops at this step
pub record StopsAt (budget : ℕ) (winner : Side) (n : ℕ) (p : Position) (man ray : ℕ) (step : RayStep) : Type 0 where
  pub man_is : step.man ≡ man
  pub ray_is : step.ray ≡ ray
  pub over : IsFirstOver budget winner n p man ray step.part step.at

-- the text is the line that describes a man's ray
abbrev pub IsRayLine : (budget : ℕ) → Side → ℕ → Position → (man ray : ℕ) → List ℕ → Type 0
IsRayLine budget winner n p man ray text =
    (step : Ray) × (description : Description) × IsMover p man ray step
    × IsDescribed budget winner n p man ray description
    × (text ≡ ray_line man step description)

-- a text, or the step that exceeds the budget before the text is known
abbrev pub Told : Type 0
Told = Result (List ℕ) RayStep

-- the result for a ray: an empty text if the man has no first move along it; otherwise its line, or the step at which
-- its description stops
abbrev pub RayTells : (budget : ℕ) → Side → ℕ → Position → (man ray : ℕ) → Told → Type 0
RayTells budget winner n p man ray (Ok text) =
    (NoFirsts winner n p man ray × (text ≡ []))
    ⊎ ((¬ NoFirsts winner n p man ray) × IsRayLine budget winner n p man ray text)
RayTells budget winner n p man ray (Err step) =
    (¬ NoFirsts winner n p man ray) × StopsAt budget winner n p man ray step

-- the results of the first n, in order: their texts, or the first step at which one of them stops
unfoldable pub AllTell : (ℕ → Told → Type 0) → ℕ → Told → Type 0
AllTell Of zero (Ok text) = text ≡ []
AllTell Of zero (Err step) = ⊥
AllTell Of (suc k) (Ok text) =
    (front : List ℕ) × (last : List ℕ) × AllTell Of k (Ok front) × Of k (Ok last) × (text ≡ front ++ last)
AllTell Of (suc k) (Err step) =
    AllTell Of k (Err step) ⊎ ((front : List ℕ) × AllTell Of k (Ok front) × Of k (Err step))

-- the result for a man: those of his rays
abbrev pub ManTells : (budget : ℕ) → Side → ℕ → Position → (man : ℕ) → Told → Type 0
ManTells budget winner n p man = AllTell (RayTells budget winner n p man) (ray_total p man)

-- the result for all men
abbrev pub MenTell : (budget : ℕ) → Side → ℕ → Position → Told → Type 0
MenTell budget winner n p = AllTell (λ before. ManTells budget winner n p (suc before)) (length p.men)

-- the lines of all rays, and a last line
abbrev pub AreRayLines : (budget : ℕ) → Side → ℕ → Position → List ℕ → Type 0
AreRayLines budget winner n p told =
    (text : List ℕ) × MenTell budget winner n p (Ok text) × (told ≡ text ++ codes "end\n")

-- these lines, or the first step that exceeds the budget, of the plan or, if none does there, of the rays
abbrev pub RaysReport : ℕ → ℕ → Problem → Files → Report → Type 0
RaysReport n budget problem files =
    WithinBudget n budget problem
    (FirstOver ray_step_line (λ step. MenTell budget problem.winner n problem.position (Err step))
    (λ report. (told : List ℕ) × AreRayLines budget problem.winner n problem.position told × (report ≡ done_with files told)) files) files

-- the last line alone if the winner has no first move, and the report of his rays otherwise
abbrev pub DescribeReports : ℕ → ℕ → Problem → Files → Report → Type 0
DescribeReports n budget problem files report =
    (HasNoFirstMove n problem × (report ≡ done_with files (codes "end\n")))
    ⊎ ((¬ HasNoFirstMove n problem) × RaysReport n budget problem files report)
