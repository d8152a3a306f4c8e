-- The results of `solve` and the sets that it returns.
use Rattle.std.specs.Prelude.{◌≡◌, ◌↔◌, ◌⊎◌, ℕ, zero, suc, ◌-◌, ◌<◌, ◌≤◌, List, ◌++◌, length, Option, Some, None, IsSomeAnd, ℤ, option_and_then, slice_get}
use Rattle.limits.specs.declared.numbers.TheConstants.{MOST_MOVES, MOST_STATES}
use Rattle.auto_core.specs.Automaton.{Automaton}
use Rattle.auto_core.specs.Integers.{DecidesIntegers, IsAccepted}
use Rattle.auto_core.specs.Reduced.{IsReduced}
use Rattle.game_rules.specs.Game.{Position, Sound}
use Rattle.game_rules.specs.declared.men.Man.{Man}
use Rattle.game_rules.specs.declared.men.Side.{Side}
use Rattle.rule_formula.specs.Fits.{IsGameMask, masks_of}
use Rattle.mask_sets.specs.Stock.{mask_of}
use Rattle.game_laws.specs.Stock.{HasStock}
use Rattle.rule_formula.specs.Placed.{is_live}
use Rattle.mask_sets.specs.Tuple.{tuple_of}
use Rattle.rule_formula.specs.Trees.{tracks_of}
use Rattle.mask_sets.specs.Sets.{set_of}
use Rattle.set_plan.specs.Outcome.{Ends, Stops}
use Rattle.set_plan.specs.declared.stop.PlanError.{PlanError}
use Rattle.set_plan.specs.declared.stop.PlanError.TheVariants as plan_error
use Rattle.winning_sets.specs.Kept.{Kept}
use Rattle.mate_plan.specs.PlanOf.{last_ply, plan_of, rules_of}
use Rattle.mate_plan.specs.Plan.{Level, Program, forward, turn_at}
use Rattle.mate_plan.specs.declared.names.PartName.{PartName}
use Rattle.winning_sets.specs.Reach.{Reach}
use Rattle.winning_sets.specs.declared.names.SolveError.{SolveError}
use Rattle.winning_sets.specs.declared.origin.Origin.{Origin}
use Rattle.winning_sets.specs.declared.origin.Origin.TheVariants.{Plan}
use Rattle.winning_sets.specs.declared.names.SolveError.TheVariants as solve_error

-- some position of the set has these live men and these coordinates
pub record IsTupleOf (Set : Position → Type 0) (mask : ℕ) (tuple : List ℤ) : Type 0 where
  pub position : Position
  pub is_in : Set position
  pub mask_is : mask_of position ≡ mask
  pub tuple_is : tuple_of position ≡ tuple

-- the automaton accepts exactly the coordinates of the positions of the set with these live men
pub record HasTuplesOf (Set : Position → Type 0) (mask : ℕ) (a : Automaton) : Type 0 where
  pub same : (tuple : List ℤ) → IsAccepted a tuple ↔ IsTupleOf Set mask tuple

-- the automaton is reduced and decides a set of integers, its tracks are those of the mask's men in ascending order,
-- and it has at most as many states as the greatest budget
pub record IsSetAt (stock : List Man) (mask : ℕ) (a : Automaton) : Type 0 where
  pub reduced : IsReduced a
  pub integers : DecidesIntegers a
  pub tracks : a.tracks ≡ tracks_of stock (is_live mask)
  pub few : length a.accept ≤ MOST_STATES

-- the sets by ply and mask, as far as there are any
abbrev pub Sets : Type 0
Sets = ℕ → ℕ → Option Automaton

-- the set of a ply and a mask, if each ply has one for each of the masks, in order
abbrev pub sets_at : List ℕ → List (List Automaton) → Sets
sets_at masks plies ply mask = option_and_then (λ sets. set_of masks sets mask) (slice_get plies ply)

-- the contents of a solved position: the origin of its sets, and the sets ply by ply, at each ply in the order of the
-- masks of the position
pub record Solution : Type 0 where
  pub origin : Origin
  pub position : Position
  pub winner : Side
  pub moves : ℕ
  pub kept : List (List Automaton)
  pub reach : List (List Automaton)

-- a position with the sets of its plan, as a solution
abbrev pub planned : Position → Side → ℕ → List (List Automaton) → List (List Automaton) → Solution
planned position winner moves kept reach =
    record {
      origin = Plan;
      position = position;
      winner = winner;
      moves = moves;
      kept = kept;
      reach = reach;
    }

abbrev pub kept_at : Solution → Sets
kept_at s = sets_at (masks_of s.position) s.kept

abbrev pub reach_at : Solution → Sets
reach_at s = sets_at (masks_of s.position) s.reach

-- the last ply of a solution
abbrev pub end_of : Solution → ℕ
end_of s = last_ply s.winner s.position.turn s.moves

-- up to the last ply there is a set for each mask with the right tuples; there are no other sets
pub record AreSets (Set : ℕ → Position → Type 0) (p : Position) (last : ℕ) (sets : Sets) : Type 0 where
  pub found : (ply mask : ℕ) → ply ≤ last → IsGameMask p mask → IsSomeAnd (sets ply mask) (HasTuplesOf (Set ply) mask)
  pub only : (ply mask : ℕ) (a : Automaton) → sets ply mask ≡ Some a → (ply ≤ last) × IsGameMask p mask
  pub formed : (ply mask : ℕ) (a : Automaton) → sets ply mask ≡ Some a → IsSetAt p.men mask a

-- the sets are exactly the kept ones of the plies and masks for this number of moves
abbrev pub AreKept : Side → Position → ℕ → Sets → Type 0
AreKept winner p moves sets = AreSets (Kept winner p moves) p (last_ply winner p.turn moves) sets

-- the sets are exactly the reached ones up to a ply
abbrev pub AreReached : Position → ℕ → Sets → Type 0
AreReached p last sets = AreSets (Reach p) p last sets

-- the sets are exactly the reached ones up to the last ply; if that is the first one, the plan has no step, and there
-- is no set
abbrev pub AreReachedTo : Position → ℕ → Sets → Type 0
AreReachedTo p zero sets = (ply mask : ℕ) → sets ply mask ≡ None
AreReachedTo p (suc last) sets = AreReached p (suc last) sets

-- a sound position of at most eight men with its kept and reached sets
pub record IsSolution (s : Solution) : Type 0 where
  pub sound : Sound s.position
  pub few : length s.position.men ≤ 8
  pub moves : s.moves ≤ MOST_MOVES
  pub kept : AreKept s.winner s.position s.moves (kept_at s)
  pub reached : AreReachedTo s.position (end_of s) (reach_at s)

-- no step of the program exceeds the budget
pub record IsWithin {A : Type 0} (program : Program A) (budget : ℕ) : Type 0 where
  pub value : A
  pub ends : Ends program budget value

-- unless memory ran out, the step is the first one of the plan that exceeds the budget
abbrev pub IsSolveError : {A : Type 0} → Program A → ℕ → ℕ → SolveError → Type 0
IsSolveError program moves budget (solve_error.Over name) =
    (name.moves ≡ moves)
    × Stops program budget
    (record { part = record { ply = name.ply; mask = name.mask; part = name.part }; at = name.at })
IsSolveError program moves budget solve_error.Memory = Unit {0}

-- the error of `solve`, from the error of the plan for this number of moves
abbrev pub solve_error_of : ℕ → PlanError PartName → SolveError
solve_error_of moves (plan_error.Over name) =
    solve_error.Over
    (record { moves = moves; ply = name.part.ply; mask = name.part.mask; part = name.part.part; at = name.at })
solve_error_of moves plan_error.Memory = solve_error.Memory

-- the kept set of the position's mask has its coordinates
abbrev pub HasCoordinates : Solution → ℕ → Position → Type 0
HasCoordinates s ply q = IsSomeAnd (kept_at s ply (mask_of q)) (λ a. IsAccepted a (tuple_of q))

-- the position has the material and the turn of the ply, and its coordinates are in the kept set of its mask
pub record IsKeptIn (s : Solution) (ply : ℕ) (q : Position) : Type 0 where
  pub stock : HasStock s.position.men q
  pub turn : q.turn ≡ turn_at s.position.turn ply
  pub is_in : HasCoordinates s ply q

-- the number of states of a set, 0 if there is no set
abbrev pub states_of : Option Automaton → ℕ
states_of None = 0
states_of (Some a) = length a.accept

-- the number is the greatest number of states of the kept sets
pub record IsMostStates (s : Solution) (count : ℕ) : Type 0 where
  pub within : (ply mask : ℕ) (a : Automaton) → kept_at s ply mask ≡ Some a → length a.accept ≤ count
  pub least : (n : ℕ) → ((ply mask : ℕ) (a : Automaton) → kept_at s ply mask ≡ Some a → length a.accept ≤ n) → count ≤ n

-- the solution is of this position, and its sets come from a plan
pub record IsOf (p : Position) (winner : Side) (moves : ℕ) (s : Solution) : Type 0 where
  pub origin : s.origin ≡ Plan
  pub position : s.position ≡ p
  pub winner_is : s.winner ≡ winner
  pub moves_are : s.moves ≡ moves

-- the solution is of this position, and its sets are right
pub record IsAnswer (p : Position) (winner : Side) (moves : ℕ) (s : Solution) : Type 0 where
  pub of : IsOf p winner moves s
  pub valid : IsSolution s

-- the contents of a solver: the reached sets of each finished ply, in the order of the masks of the position
pub record SolverState : Type 0 where
  pub position : Position
  pub winner : Side
  pub budget : ℕ
  pub reach : List (List Automaton)

-- the plan of the solver's position for a number of moves
abbrev pub plan_for : SolverState → ℕ → Program (List Level)
plan_for s moves = plan_of s.winner s.position moves

-- its last ply
abbrev pub last_for : SolverState → ℕ → ℕ
last_for s moves = last_ply s.winner s.position.turn moves

-- the plan's way forward up to a ply
abbrev pub forward_to : SolverState → ℕ → Program (List Level)
forward_to s ply = forward (rules_of s.position) s.position.turn (mask_of s.position) ply

-- the sets, ply by ply, are exactly the kept ones for this number of moves
abbrev pub AreKeptFor : SolverState → ℕ → List (List Automaton) → Type 0
AreKeptFor s moves plies = AreKept s.winner s.position moves (sets_at (masks_of s.position) plies)

-- the last finished ply
abbrev pub plies_of : SolverState → ℕ
plies_of s = length s.reach - 1

-- the same position, winner and budget, and all sets that were finished, possibly with more after them
pub record IsSolverAfter (old new : SolverState) : Type 0 where
  pub position : new.position ≡ old.position
  pub winner : new.winner ≡ old.winner
  pub budget : new.budget ≡ old.budget
  pub added : List (List Automaton)
  pub reach : new.reach ≡ old.reach ++ added

-- the automaton is the reached set of a finished ply after the first and of a mask of the position
pub record IsReachedSet (s : SolverState) (ply mask : ℕ) (a : Automaton) : Type 0 where
  pub first : 0 < ply
  pub last : ply ≤ plies_of s
  pub game : IsGameMask s.position mask
  pub is_there : sets_at (masks_of s.position) s.reach ply mask ≡ Some a
  pub tuples : HasTuplesOf (Reach s.position ply) mask a
  pub formed : IsSetAt s.position.men mask a

-- the ply is the first one or not finished, or the mask is not one of the position
abbrev pub IsUnreached : SolverState → ℕ → ℕ → Type 0
IsUnreached s ply mask = (ply ≡ 0) ⊎ (plies_of s < ply) ⊎ (¬ IsGameMask s.position mask)
