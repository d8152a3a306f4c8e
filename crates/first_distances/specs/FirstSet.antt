-- The winner's first moves along a ray as a set of distances, and the errors within a budget.
use Rattle.std.specs.Prelude.{◌≡◌, ◌↔◌, ℕ, List, [], ◌∷◌, ℤ, pos, Some, None, IsSomeAnd, slice_get}
use Rattle.auto_core.specs.Automaton.{Automaton}
use Rattle.auto_core.specs.Integers.{DecidesIntegers, IsAccepted}
use Rattle.auto_core.specs.Reduced.{IsReduced}
use Rattle.lin_formula.specs.Holds.{Sets}
use Rattle.lin_formula.specs.Tree.{steps}
use Rattle.formula_auto.specs.Step.{FirstOver}
use Rattle.formula_auto.specs.declared.errors.CompileError.{CompileError}
use Rattle.formula_auto.specs.declared.errors.CompileError.TheVariants as compile_error
use Rattle.game_rules.specs.Game.{Position}
use Rattle.game_rules.specs.declared.men.Side.{Side}
use Rattle.winning_sets.specs.Kept.{Kept}
use Rattle.winning_sets.specs.Solve.{IsTupleOf}
use Rattle.winner_session.specs.Firsts.{Firsts}
use Rattle.first_distances.specs.RayFormula.{masks_after, ray_formula, t_var}

-- the tuple is one distance with the property
pub record IsDistance (P : ℕ → Type 0) (tuple : List ℤ) : Type 0 where
  pub distance : ℕ
  pub is_tuple : tuple ≡ pos distance ∷ []
  pub has : P distance

-- the automaton is reduced and accepts exactly the distances of the winner's first moves along the ray
pub record IsFirstSet (winner : Side) (n : ℕ) (p : Position) (man ray : ℕ) (a : Automaton) : Type 0 where
  pub reduced : IsReduced a
  pub integers : DecidesIntegers a
  pub tracks : a.tracks ≡ t_var ∷ []
  pub firsts : (tuple : List ℤ) → IsAccepted a tuple ↔ IsDistance (Firsts winner n p man ray) tuple

-- the sets that the formula names, by number: the coordinates of the positions kept after the first move with the live
-- men of the number's mask
abbrev pub kept_after : Side → ℕ → Position → Sets
kept_after winner n p number tuple =
    IsSomeAnd (slice_get (masks_after p) number) (λ mask. IsTupleOf (Kept winner p n 1) mask tuple)

-- no step of the ray's formula exceeds the budget
abbrev pub RayStaysWithin : Side → ℕ → Position → ℕ → ℕ → ℕ → Type 0
RayStaysWithin winner n p man ray budget =
    FirstOver (steps (ray_formula p man ray)) (kept_after winner n p) budget 1 None

-- the step, counted from 1, is the first one of the ray's formula that exceeds the budget
abbrev pub IsRayError : Side → ℕ → Position → ℕ → ℕ → ℕ → CompileError → Type 0
IsRayError winner n p man ray budget (compile_error.Over step) =
    FirstOver (steps (ray_formula p man ray)) (kept_after winner n p) budget 1 (Some step)
IsRayError winner n p man ray budget compile_error.Memory = Unit {0}
