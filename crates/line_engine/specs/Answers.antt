-- Results of the programs of a crowd.
use Rattle.std.specs.Prelude.{◌≡◌, ◌<◌, ◌+◌, ◌*◌, ◌^◌, ℕ, List, [], ◌∷◌, length, map, true, Option, IfSome, Result, Ok, Err}
use Rattle.track_word.specs.declared.tracks.Var.{Var}
use Rattle.auto_core.specs.Automaton.{Automaton}
use Rattle.lin_formula.specs.SetOf.{IsEmpty, NoneEmpty, SetOf, Table, as_set, tables}
use Rattle.lin_formula.specs.Tree.{And, Among, Tree, free_vars, steps}
use Rattle.rule_formula.specs.Fine.{IsFine, IsLow}
use Rattle.set_plan.specs.Outcome.{Ends, IsPlanError}
use Rattle.set_plan.specs.declared.stop.PlanError.{PlanError}
use Rattle.set_plan.specs.declared.stop.PlanError.TheVariants as plan_error
use Rattle.set_plan.specs.Sets.{IsItemOn, IsReachedOn}
use Rattle.set_plan.specs.Program.{Ask, Empty, Give, ◌>>=◌}
use Rattle.set_plan.specs.Unite.{Made, difference, make, positives, with_item}
use Rattle.line_plan.specs.Plan.{Found, Losing as Lost, Program, distances, shortened, shortened_rest}
use Rattle.line_engine.specs.declared.losing.LoserProgress.{LoserProgress}
use Rattle.line_engine.specs.declared.errors.CrowdError.{CrowdError}
use Rattle.line_engine.specs.declared.errors.CrowdError.TheVariants.{Over, Memory}

-- the error as that of a program without parts
abbrev pub as_plan_error : CrowdError → PlanError (Unit {0})
as_plan_error (Over step) = plan_error.Over (record { part = tt; at = step })
as_plan_error Memory = plan_error.Memory

-- unless memory ran out, the error names the first step of the program that exceeds the budget
abbrev pub IsErrorOf : {A : Type 0} → Program A → ℕ → CrowdError → Type 0
IsErrorOf program budget e = IsPlanError program budget (as_plan_error e)

-- the value of the program, no step of which exceeds the budget, or the first step that exceeds it
abbrev pub Answers : {A R : Type 0} → Program A → ℕ → (R → A) → Result R CrowdError → Type 0
Answers program budget view (Ok r) = Ends program budget (view r)
Answers program budget view (Err e) = IsErrorOf program budget e

-- the set is this automaton, which accepts some tuple
pub record IsThisOne (a set : Automaton) : Type 0 where
  pub same : set ≡ a
  pub some : ¬ IsEmpty (Table a)

-- a computed set, and the number of the next step
abbrev pub made_at : ℕ → Option Automaton → Made
made_at at set = (as_set set, at)

-- the set kept after a path, all of whose tuples are known
abbrev pub found_at : ℕ → Option Automaton → Found
found_at at set = record { set = as_set set; at = at; known = true }

-- the progress over the loser's options
abbrev pub losing_at : ℕ → LoserProgress → Lost
losing_at at lost = record { escape = as_set lost.escape; moves = as_set lost.moves; at = at; known = true }

-- an automaton over these tracks that accepts some tuple
pub record IsFilledOn (tracks : List Var) (a : Automaton) : Type 0 where
  pub reached : IsReachedOn tracks a
  pub some : ¬ IsEmpty (Table a)

-- no set, or a nonempty one of tuples of n distances
abbrev pub IsFilled : ℕ → Option Automaton → Type 0
IsFilled n set = IfSome set (IsFilledOn (distances n))

-- a formula over these tracks that can be compiled over the table; the sets that it names outside of any Not are not
-- empty
pub record IsFilledItem (tracks : List Var) (sets : List Automaton) (f : Tree) : Type 0 where
  pub item : IsItemOn tracks sets f
  pub some : NoneEmpty (map (tables sets) (positives f))

-- both sets of the progress over the loser's options are filled
pub record IsFilledLosing (n : ℕ) (lost : LoserProgress) : Type 0 where
  pub escape : IsFilled n lost.escape
  pub moves : IsFilled n lost.moves

-- the table has one set, of tuples of n distances
pub record IsOneSet (n : ℕ) (sets : List Automaton) : Type 0 where
  pub set : Automaton
  pub is : sets ≡ set ∷ []
  pub filled : IsFilledOn (distances n) set

-- the formula names no set
abbrev pub NoSet : ℕ × List Var → Type 0
NoSet m = ⊥

-- a part of a move or of a check that can be compiled: it uses the distances so far, and the next one if n is one more
pub record IsPartOf (count n : ℕ) (part : Tree) : Type 0 where
  pub fine : IsFine IsLow NoSet part
  pub few_steps : length (steps part) < 999
  pub over : free_vars (And (Among 0 (distances count)) part) ≡ distances n

-- the difference of two sets
abbrev pub rest_of : ℕ → Made → SetOf → Program Made
rest_of n all other =
    Ask (Empty (other ∷ [])) (Give all) (make tt all.1 (difference (distances n) all.0 other))

-- the escapes with one more option of the loser, by which the first set is reached and of which the second is kept
abbrev pub escape_by : ℕ → SetOf → SetOf → Lost → Program Lost
escape_by n reached kept so_far = do
  escape ← Ask (Empty (kept ∷ [])) (with_item (distances n) tt (shortened n reached) (so_far.escape, so_far.at))
      (with_item (distances n) tt (shortened_rest n reached kept) (so_far.escape, so_far.at))
  moves ← with_item (distances n) tt (shortened n reached) (so_far.moves, escape.1)
  Give (record { escape = escape.0; moves = moves.0; at = moves.1; known = true })

-- a bound on the number of steps for one option with `left` moves of both sides after it
abbrev pub most_of_option : ℕ → ℕ
most_of_option left = 2 ^ 21 + 2 ^ (16 * left + 22)

-- a bound on the number of steps with `left` moves of both sides left
abbrev pub most_steps : ℕ → ℕ
most_steps left = 2 ^ (16 * left + 22)
