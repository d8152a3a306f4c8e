-- A plan exceeds a budget at one step, or at none. Crates above cite these lemmas.
use Rattle.std.proofs.Common.{◌≡◌, ℕ, sym, ap, ◌∙◌}
use Rattle.set_plan.specs.declared.stop.PartStep as set_plan
use Rattle.mate_plan.specs.declared.names.PartName.{PartName}
use Rattle.mate_plan.proofs.PlanOnce.{ends_once}
use Rattle.winning_sets.specs.declared.names.StepName.{StepName}
use Rattle.desk_text.specs.declared.problem.Problem.{Problem}
use Rattle.desk_verdict.specs.Verdict.{ExceedsAt, FitsBudget}

-- the name without the number of moves
abbrev pub in_plan : StepName → set_plan.PartStep PartName
in_plan step = record { part = record { ply = step.ply; mask = step.mask; part = step.part }; at = step.at }

pub same_step : (x y : StepName) → x.moves ≡ y.moves → in_plan x ≡ in_plan y → x ≡ y
same_step x y moves same = λ i. record {
  moves = moves i;
  ply = ap (λ (s : set_plan.PartStep PartName). s.part.ply) same i;
  mask = ap (λ (s : set_plan.PartStep PartName). s.part.mask) same i;
  part = ap (λ (s : set_plan.PartStep PartName). s.part.part) same i;
  at = ap (λ (s : set_plan.PartStep PartName). s.at) same i;
}

module _ (problem : Problem) (budget n : ℕ) where
  pub fits_exceeds : (step : StepName) → FitsBudget problem budget n → ExceedsAt problem budget n step → ⊥
  fits_exceeds step fits over = (ends_once problem.winner problem.position n budget).not_both fits.value (in_plan step) fits.ends over.1

  pub exceeds_once : (x y : StepName) → ExceedsAt problem budget n x → ExceedsAt problem budget n y → x ≡ y
  exceeds_once x y a b = same_step x y (a.0 ∙ sym b.0) ((ends_once problem.winner problem.position n budget).one_step (in_plan x) (in_plan y) a.1 b.1)
