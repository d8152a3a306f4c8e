-- What holds where the winner has no move of his own, and what a solved position says of its problem. Crates above cite
-- these lemmas.
use Rattle.std.proofs.Common.{◌≡◌, ℕ, ◌↔◌, Bool, true, false, IsTrue, List, [], inl, inr, refl, sym, ap, subst, ◌∙◌}
use Rattle.game_rules.specs.Game.{Position, Value}
use Rattle.game_rules.specs.declared.men.Side.{Side}
use Rattle.game_rules.specs.declared.men.Side.TheVariants.{White, Black}
use Rattle.game_laws.proofs.SoundLemmas.{other_differs}
use Rattle.set_plan.proofs.Composition.{Ends-give}
use Rattle.mate_plan.specs.PlanOf.{last_ply, plan_of, plan_to}
use Rattle.winning_sets.specs.Solve.{IsOf, IsSolveError, IsWithin, Solution}
use Rattle.winning_sets.specs.declared.names.SolveError.TheVariants as solve_error
use Rattle.winning_sets.specs.declared.names.StepName.{StepName}
use Rattle.desk_text.specs.declared.problem.Problem.{Problem}
use Rattle.desk_verdict.specs.Verdict.{ExceedsAt, FitsBudget, HasNothingToPlay, IsVerdict, mate_line, no_mate_line}

-- with the winner to move and no move there is no step
no_ply : (winner : Side) → last_ply winner winner 0 ≡ 0
no_ply White = refl
no_ply Black = refl

pub none_fits : (problem : Problem) (budget n : ℕ) → HasNothingToPlay n problem → FitsBudget problem budget n
none_fits problem budget n h =
    let P : ℕ → Type 0 = λ ply. IsWithin (plan_to problem.position ply) budget in
    let last : last_ply problem.winner problem.position.turn n ≡ 0 =
    ap (λ s. last_ply problem.winner s n) h.turn ∙ ap (λ k. last_ply problem.winner problem.winner k) h.none ∙ no_ply problem.winner in
    subst P (sym last) (record { value = []; ends = Ends-give budget [] })

-- and no mate
pub none_mates : {problem : Problem} {n : ℕ} → HasNothingToPlay n problem → Value problem.winner n problem.position → ⊥
none_mates {problem} h value =
    let Moves : ℕ → Type 0 = λ k. Value problem.winner k problem.position in
    no_win (subst Moves h.none value)
  where
    no_win : Value problem.winner 0 problem.position → ⊥
    no_win (inl win) = win
    no_win (inr lost) = other_differs problem.winner (sym h.turn ∙ lost.0)

-- what a solved position says of the problem
module _ (problem : Problem) (q : Position) (winner : Side) (budget n : ℕ) (position : q ≡ problem.position) (same : winner ≡ problem.winner) where
  pub fits_problem : IsWithin (plan_of winner q n) budget → FitsBudget problem budget n
  fits_problem fits =
      let At : Position → Type 0 = λ r. IsWithin (plan_of problem.winner r n) budget in
      let Of : Side → Type 0 = λ s. IsWithin (plan_of s q n) budget in
      subst At position (subst Of same fits)

  pub exceeds_problem : (step : StepName) → IsSolveError (plan_of winner q n) n budget (solve_error.Over step) → ExceedsAt problem budget n step
  exceeds_problem step over =
      let At : Position → Type 0 = λ r. IsSolveError (plan_of problem.winner r n) n budget (solve_error.Over step) in
      let Of : Side → Type 0 = λ s. IsSolveError (plan_of s q n) n budget (solve_error.Over step) in
      subst At position (subst Of same over)

  pub of_problem : (s : Solution) → IsOf q winner n s → IsOf problem.position problem.winner n s
  of_problem s of = record { origin = of.origin; position = of.position ∙ position; winner_is = of.winner_is ∙ same; moves_are = of.moves_are }

-- the value of a solution is that of the problem that it solves
value_of : (problem : Problem) (n : ℕ) (s : Solution) → IsOf problem.position problem.winner n s → Value s.winner s.moves s.position ↔ Value problem.winner n problem.position
value_of problem n s of =
    let At : Position → Type 0 = λ r. Value s.winner s.moves s.position ↔ Value problem.winner n r in
    let Moves : ℕ → Type 0 = λ k. Value s.winner s.moves s.position ↔ Value problem.winner k s.position in
    let Of : Side → Type 0 = λ w. Value s.winner s.moves s.position ↔ Value w s.moves s.position in
    subst At of.position (subst Moves of.moves_are (subst Of of.winner_is (λ v. v, λ v. v)))

pub won_as : (problem : Problem) (q : Position) (winner : Side) (n : ℕ) (s : Solution) (test due : Bool) → q ≡ problem.position
    → winner ≡ problem.winner → IsOf q winner n s → IsTrue test ↔ Value s.winner s.moves s.position → test ≡ due
    → IsTrue due ↔ Value problem.winner n problem.position
won_as problem q winner n s test due position same of is is_due =
    let P : Bool → Type 0 = λ t. IsTrue t ↔ Value problem.winner n problem.position in
    let value = value_of problem n s (of_problem problem q winner 0 n position same s of) in subst P is_due (λ t. value.0 (is.0 t), λ v. is.1 (value.1 v))

-- so a solved position that the winner wins has its value
pub solved_value : (problem : Problem) (n : ℕ) (s : Solution) → IsOf problem.position problem.winner n s → Value problem.winner n problem.position → Value s.winner s.moves s.position
solved_value problem n s of value = (value_of problem n s of).1 value

-- the line of a verdict is right
pub verdict_is : (n : ℕ) (problem : Problem) (won : Bool) (line : List ℕ) → (IsTrue won → line ≡ mate_line n)
    → ((IsTrue won → ⊥) → line ≡ no_mate_line n) → IsTrue won ↔ Value problem.winner n problem.position → IsVerdict n problem line
verdict_is n problem true line mate none is = inl (mate refl, is.0 refl)
verdict_is n problem false line mate none is = inr (none (λ t. cc), λ value. let t = is.1 value in cc)
