-- Properties of a plan's context and state: rules, tracks, and the sets and levels that names refer to.
use Rattle.std.specs.Prelude.{◌≡◌, ℕ, if◌then◌else◌, List, [], ◌∷◌, ◌++◌, Option, IfSome}
use Rattle.track_word.specs.declared.tracks.Var.{Var}
use Rattle.auto_core.specs.Automaton.{Automaton}
use Rattle.lin_formula.specs.declared.formula.SetId.{SetId}
use Rattle.rule_formula.specs.Mean.{mask_tracks}
use Rattle.rule_formula.specs.Placed.{is_live}
use Rattle.rule_formula.specs.Seats.{own}
use Rattle.set_plan.specs.Sets.{Grows, IsLeftOn, IsNameOn, IsSetOn}
use Rattle.set_plan.specs.declared.left.Left.{Left}
use Rattle.mate_plan.specs.Levels.{AreNamesIn, Names, level_in}
use Rattle.mate_plan.specs.Plan.{Level, Rules}
use Rattle.mate_plan.specs.PlanOf.{rules_of}
use Rattle.mate_plan.specs.declared.bench.PlanContext.{PlanContext}
use Rattle.mate_plan.specs.declared.bench.PlanState.{PlanState}

-- the state later on: each set is still there under its name, and the budget is the same
pub record IsLater (old new : PlanState) : Type 0 where
  pub grows : Grows old.sets new.sets
  pub budget : new.memo.budget ≡ old.memo.budget

-- the formulas of the rules for the position of the context
abbrev pub rules_on : PlanContext → Rules
rules_on bench = rules_of bench.position.now

-- the variables of the mask's men
abbrev pub tracks_on : PlanContext → ℕ → List Var
tracks_on bench mask = mask_tracks bench.position.now mask

-- the variables so far, and those of man k, if he is in the mask
abbrev pub with_man : ℕ → ℕ → List Var → List Var
with_man mask k tracks = if is_live mask k then tracks ++ (own k).x ∷ (own k).y ∷ [] else tracks

-- no set, or one over the variables of the mask's men
abbrev pub IsSetFor : PlanContext → ℕ → Option Automaton → Type 0
IsSetFor bench mask set = IfSome set (IsSetOn (tracks_on bench mask))

-- no name, or that of a set over the variables of the mask's men
abbrev pub IsNameFor : PlanContext → ℕ → List Automaton → Option SetId → Type 0
IsNameFor bench mask sets name = IsNameOn (tracks_on bench mask) sets name

-- whatever variables the whole set and what is left of it are over, the name is that of a set over them among the new
-- ones
abbrev pub IsNameOfLeft : List Automaton → List Automaton → Option SetId → Left → Option SetId → Type 0
IsNameOfLeft old new whole left name =
    (tracks : List Var) → IsNameOn tracks old whole → IsLeftOn tracks left → IsNameOn tracks new name

-- the level of these names
abbrev pub level_on : PlanContext → List Automaton → Names → Level
level_on bench sets names = level_in bench.position.now sets names

-- the names refer to this level, whatever sets are stored
abbrev pub StandFor : PlanContext → (List Automaton → Level) → Names → Type 0
StandFor bench level names = (sets : List Automaton) → level_on bench sets names ≡ level sets

-- whatever sets are stored, the names are valid for all masks if the name is valid for the mask
abbrev pub AreNamesIf : PlanContext → ℕ → Option SetId → Names → Type 0
AreNamesIf bench mask name names =
    (sets : List Automaton) → IsNameFor bench mask sets name → AreNamesIn bench.position.now sets names
