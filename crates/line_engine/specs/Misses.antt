-- Formulas that are false at every tuple of a set.
use Rattle.std.specs.Prelude.{◌≡◌, ◌<◌, ◌≤◌, ◌*◌, ℕ, [], ◌∷◌, length, Option, Some}
use Rattle.auto_core.specs.Automaton.{Automaton}
use Rattle.lin_formula.specs.SetOf.{SetOf, members, tables}
use Rattle.lin_formula.specs.Tree.{Tree, And, Among, Not, steps}
use Rattle.formula_auto.specs.Decides.{Decides}
use Rattle.formula_auto.specs.Step.{StaysWithin}
use Rattle.rule_formula.specs.Fine.{IsFine, IsLow}
use Rattle.line_plan.specs.Plan.{distances}
use Rattle.line_engine.specs.Answers.{IsFilledOn, IsPartOf, NoSet}
use Rattle.line_engine.specs.Sizes.{HasSize}

-- the first formula of a chain of And; each further formula of the chain is a Not
abbrev pub lead : Tree → Tree
lead (And f (Not g)) = lead f
lead f = f

-- the formula names no set and can be compiled
pub record IsPlain (f : Tree) : Type 0 where
  pub fine : IsFine IsLow NoSet f
  pub few_steps : length (steps f) < 999

-- no set is named
abbrev pub no_sets : ℕ → SetOf
no_sets = tables []

-- the automaton decides the formula, no step of which exceeds the budget
pub record IsMadeOf (f : Tree) (budget : ℕ) (a : Automaton) : Type 0 where
  pub decides : Decides a f (members no_sets)
  pub within : StaysWithin f (members no_sets) budget

-- the formula distinguishes at most n words, and no step of it exceeds the budget
pub record IsSized (f : Tree) (budget n : ℕ) : Type 0 where
  pub size : HasSize f (members no_sets) n
  pub within : StaysWithin f (members no_sets) budget

-- the product of two numbers, which is within the budget
pub record IsProductOf (one other : Option ℕ) (budget product : ℕ) : Type 0 where
  pub first : ℕ
  pub second : ℕ
  pub first_is : one ≡ Some first
  pub second_is : other ≡ Some second
  pub is : product ≡ first * second
  pub few : product ≤ budget

-- `own` times the number of words that the formula distinguishes is within the budget
pub record FitsWith (f : Tree) (budget own : ℕ) : Type 0 where
  pub size : ℕ
  pub sized : IsSized f budget size
  pub room : own * size ≤ budget

-- a set of tuples of distances, and a formula over them that names no set
pub record IsAsked (a : Automaton) (f : Tree) : Type 0 where
  pub count : ℕ
  pub few : count ≤ 6
  pub filled : IsFilledOn (distances count) a
  pub part : IsPartOf count count (Not f)

-- subtracting the formula leaves the set unchanged, and no step of that exceeds the budget
pub record IsMissed (a : Automaton) (f : Tree) (budget : ℕ) : Type 0 where
  pub decides : Decides a (And (Among 0 a.tracks) (Not f)) (members (tables (a ∷ [])))
  pub within : StaysWithin (And (Among 0 a.tracks) (Not f)) (members (tables (a ∷ []))) budget
