-- What is reported of `describe` is one report. Crates above cite `describe_row`.
use Rattle.std.proofs.Common.{◌≡◌, ℕ, suc, ◌≤◌, List, [], ◌++◌, length, Ok, Err, inl, inr, refl, sym, ap, subst, ◌∙◌}
use Rattle.std.specs.Prelude.{codes}
use Rattle.desk_base.specs.Files.{Files}
use Rattle.game_rules.specs.Game.{Position, Value}
use Rattle.game_rules.specs.declared.men.Side.{Side}
use Rattle.winner_session.proofs.FirstLemmas.{firsts_value}
use Rattle.winning_sets.specs.Solve.{IsOf, Solution}
use Rattle.desk_report.specs.Outcome.{done_with}
use Rattle.desk_report.proofs.One.{IsDueOf, IsOne, and_row, due_row, either_row, line_row, over_row}
use Rattle.desk_solve.specs.First.{HasNoFirstMove, ray_total}
use Rattle.desk_text.specs.declared.problem.Problem.{Problem}
use Rattle.desk_verdict.proofs.Rows.{within_row}
use Rattle.desk_describe.specs.Describe.{AllTell, AreRayLines, DescribeReports, ManTells, MenTell, RayTells, Told}
use Rattle.desk_describe.specs.RayStep.{ray_step_line}
use Rattle.desk_describe.specs.declared.ray_step.RayStep.{RayStep}
use Rattle.desk_describe.proofs.AllTold.{all_empty, text_in, told_once}
use Rattle.desk_describe.proofs.OneRay.{ray_once}

module _ (budget : ℕ) (winner : Side) (n : ℕ) (p : Position) where
  man_once : (man : ℕ) (one other : Told) → ManTells budget winner n p man one → ManTells budget winner n p man other → one ≡ other
  man_once man = told_once (RayTells budget winner n p man) (ray_once budget winner n p man) (ray_total p man)

  men_once : (one other : Told) → MenTell budget winner n p one → MenTell budget winner n p other → one ≡ other
  men_once = told_once (λ before. ManTells budget winner n p (suc before)) (λ before. man_once (suc before)) (length p.men)

  lines_once : (one other : List ℕ) → AreRayLines budget winner n p one → AreRayLines budget winner n p other → one ≡ other
  lines_once one other (text, h, is) (more, j, so) = is ∙ ap (λ t. text_in t ++ codes "end\n") (men_once (Ok text) (Ok more) h j) ∙ sym so

  step_once : (one other : RayStep) → MenTell budget winner n p (Err one) → MenTell budget winner n p (Err other) → ray_step_line one ≡ ray_step_line other
  step_once one other h j = ap line_in (men_once (Err one) (Err other) h j)
    where
      line_in : Told → List ℕ
      line_in (Ok text) = []
      line_in (Err step) = ray_step_line step

  line_or_step : (step : RayStep) (told : List ℕ) → MenTell budget winner n p (Err step) → AreRayLines budget winner n p told → ⊥
  line_or_step step told stops (text, h, is) = let e = men_once (Err step) (Ok text) stops h in cc

  -- where the winner does not mate in time there is the last line alone
  pub last_line : 1 ≤ n → ¬ Value winner n p → AreRayLines budget winner n p (codes "end\n")
  last_line some none =
      let rays : (man ray : ℕ) → RayTells budget winner n p man ray (Ok []) = λ man ray. inl (λ distance first. none (firsts_value winner n p man ray distance some first), refl) in
      let men : (before : ℕ) → ManTells budget winner n p (suc before) (Ok []) = λ before. all_empty (RayTells budget winner n p (suc before)) (rays (suc before)) (ray_total p (suc before)) in
      ([], all_empty (λ before. ManTells budget winner n p (suc before)) men (length p.men), refl)

-- what is told of a solved position is told of the problem that it solves
pub told_of_problem : (n : ℕ) (problem : Problem) (s : Solution) → IsOf problem.position problem.winner n s → (Holds : Side → ℕ → Position → Type 0)
    → Holds s.winner s.moves s.position → Holds problem.winner n problem.position
told_of_problem n problem s of Holds is =
    subst (λ (p : Position). Holds problem.winner n p) of.position
    (subst (λ k. Holds problem.winner k s.position) of.moves_are (subst (λ w. Holds w s.moves s.position) of.winner_is is))

-- of a problem one thing is reported
pub describe_row : (n budget : ℕ) (problem : Problem) (files : Files) → IsOne (DescribeReports n budget problem files)
describe_row n budget problem files =
    let winner = problem.winner in
    let p = problem.position in
    let lines = AreRayLines budget winner n p in
    either_row
    (and_row (HasNoFirstMove n problem) (due_row (done_with files (codes "end\n")) (λ e. absurd (cc))))
    (and_row (¬ HasNoFirstMove n problem) (within_row n budget problem files
    (over_row ray_step_line (λ step. MenTell budget winner n p (Err step)) {rest = IsDueOf lines (λ told. done_with files told)} files
    (line_row lines (λ told. told) files (lines_once budget winner n p))
    (step_once budget winner n p) (λ step report stops right. line_or_step budget winner n p step right.0 stops right.1))))
    (λ r s none some. some.0 none.0)
