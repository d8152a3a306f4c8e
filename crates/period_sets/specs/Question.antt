-- The formulas that test periods of the set of an automaton, and their steps.
use Rattle.std.specs.Prelude.{ℕ, zero, suc, ◌≤◌, ◌<◌, List, [], ◌∷◌, ◌++◌, pos, negsuc, Some, None}
use Rattle.track_word.specs.declared.tracks.Var.{Var}
use Rattle.track_word.specs.declared.atoms.Rel.TheVariants.{Le, Eq}
use Rattle.auto_core.specs.Automaton.{Automaton}
use Rattle.lin_formula.specs.Tree.{Tree, Lin, Among, Not, And, Or, Ex, steps}
use Rattle.lin_formula.specs.Holds.{Sets}
use Rattle.lin_formula.specs.SetOf.{members, tables}
use Rattle.formula_auto.specs.Step.{FirstOver}
use Rattle.period_sets.specs.declared.periodic.TheConstants.{MOST_PERIOD}
use Rattle.period_sets.specs.Period.{IsPeriod}

-- the variable of the members, and an auxiliary one
abbrev pub t_var : Var
t_var = record { 0 = 18 }

abbrev pub u_var : Var
u_var = record { 0 = 19 }

-- the number is in the set
abbrev pub is_in : Var → Tree
is_in x = Among 0 (x ∷ [])

-- t + q is in the set
abbrev pub is_in_later : ℕ → Tree
is_in_later q = Ex u_var (And (Lin ((pos 1, u_var) ∷ (negsuc 0, t_var) ∷ []) Eq (pos q)) (is_in u_var))

-- t is positive, and exactly one of t and t + q is in the set
unfoldable pub differs : ℕ → Tree
differs q =
    And (Lin ((negsuc 0, t_var) ∷ []) Le (negsuc 0))
    (Or (And (is_in t_var) (Not (is_in_later q))) (And (Not (is_in t_var)) (is_in_later q)))

-- the steps of the formulas for 1, 2, .. up to a number
abbrev pub questions : ℕ → List Tree
questions zero = []
questions (suc n) = questions n ++ steps (differs (suc n))

-- the set that the formulas name
abbrev pub named : Automaton → Sets
named a = members (tables (a ∷ []))

-- no step of the formulas up to a number exceeds the budget
abbrev pub StaysWithin : Automaton → ℕ → ℕ → Type 0
StaysWithin a budget last = FirstOver (questions last) (named a) budget 1 None

-- no number before the last tried one is a period, and of the steps of the formulas up to it this is the first that exceeds the
-- budget
pub record IsFirstPast (S : ℕ → Type 0) (a : Automaton) (budget step : ℕ) : Type 0 where
  pub last : ℕ
  pub few : last ≤ MOST_PERIOD
  pub none : (q : ℕ) → q < last → ¬ IsPeriod S q
  pub past : FirstOver (questions last) (named a) budget 1 (Some step)
