-- The positions that the loser's moves must reach if the winner does not mate in time, and the sets of them.
use Rattle.std.specs.Prelude.{◌≡◌, ℕ, zero, suc, ◌<◌, ◌≤◌, List, [], length, All, Result, Some, slice_index_or}
use Rattle.auto_core.specs.Automaton.{Automaton}
use Rattle.game_rules.specs.Game.{Position, Win}
use Rattle.lin_formula.specs.SetOf.{SetOf, as_set}
use Rattle.mask_sets.specs.Sets.{Table, set_of}
use Rattle.rule_formula.specs.Fits.{IsGameMask, masks_of}
use Rattle.set_plan.specs.Outcome.{Answers}
use Rattle.set_plan.specs.Sets.{left_of}
use Rattle.set_plan.specs.declared.left.Left.{Left}
use Rattle.set_plan.specs.declared.stop.PlanError.{PlanError}
use Rattle.mate_plan.specs.Claim.{IsLosersPly}
use Rattle.mate_plan.specs.Plan.{Level, Program, rest_set, turn_at}
use Rattle.mate_plan.specs.PlanOf.{rules_of}
use Rattle.mate_plan.specs.Turns.{plies_before_turn}
use Rattle.mate_plan.specs.declared.names.PartName.{PartName}
use Rattle.winning_sets.specs.Kept.{moves_left}
use Rattle.winning_sets.specs.Reach.{Reach}
use Rattle.winning_sets.specs.Solve.{HasTuplesOf, IsSetAt, IsWithin, Solution, end_of, kept_at, reach_at}

-- it is the winner's turn at the ply, and he mates from the position within the moves left there
abbrev pub IsWon : Solution → ℕ → Position → Type 0
IsWon s ply q = Win s.winner (moves_left (end_of s) ply) q

-- the position is reached at the ply and not won there; no position is won on the loser's turn
pub record IsUnwon (s : Solution) (ply : ℕ) (q : Position) : Type 0 where
  pub reached : Reach s.position ply q
  pub not_won : IsWon s ply q → ⊥

-- the automaton is the set of these positions with the live men of the mask
pub record IsUnwonSet (s : Solution) (ply mask : ℕ) (a : Automaton) : Type 0 where
  pub formed : IsSetAt s.position.men mask a
  pub tuples : HasTuplesOf (IsUnwon s ply) mask a

-- each mask of the position has its set, in the order of the masks
pub record AreUnwonSets (s : Solution) (ply : ℕ) (sets : List Automaton) : Type 0 where
  pub each : (mask : ℕ) (a : Automaton) → set_of (masks_of s.position) sets mask ≡ Some a → IsUnwonSet s ply mask a
  pub found : (mask : ℕ) → IsGameMask s.position mask → (a : Automaton) × (set_of (masks_of s.position) sets mask ≡ Some a)

-- the first value if it is the side's turn, given the number of plies before its turn, and otherwise the second
abbrev pub by_turn : {A : Type 0} → ℕ → A → A → A
by_turn zero own others = own
by_turn (suc plies) own others = others

-- the sets that moves must reach at a ply: those of the list if it is the winner's turn there, and those of all reached
-- positions if it is the loser's
abbrev pub sets_into : Solution → List (List Automaton) → ℕ → List Automaton
sets_into s plies ply =
    by_turn (plies_before_turn s.winner (turn_at s.position.turn ply)) (slice_index_or plies ply []) (slice_index_or s.reach ply [])

-- the same sets with their masks
abbrev pub table_into : Solution → List (List Automaton) → ℕ → Table
table_into s plies ply = record { masks = masks_of s.position; sets = sets_into s plies ply }

-- the sets are those of a ply that a move of the loser leads to
abbrev pub AreUnwonAt : Solution → ℕ → List Automaton → Type 0
AreUnwonAt s ply sets = 0 < ply → turn_at s.position.turn ply ≡ s.winner → AreUnwonSets s ply sets

-- the first `count` plies have their sets, in order
pub record AreUnwonTo (s : Solution) (count : ℕ) (plies : List (List Automaton)) : Type 0 where
  pub count_is : length plies ≡ count
  pub each : (ply : ℕ) → ply < count → AreUnwonAt s ply (slice_index_or plies ply [])

-- all plies before the last one have their sets
abbrev pub AreUnwonPlies : Solution → List (List Automaton) → Type 0
AreUnwonPlies s plies = AreUnwonTo s (end_of s) plies

-- a search has room for each of the sets that moves must reach
abbrev pub HaveRoom : ℕ → Solution → List (List Automaton) → Type 0
HaveRoom states s plies = (ply : ℕ) → ply < end_of s → All (λ a. length a.accept ≤ states) (sets_into s plies ply)

-- the reached and the kept level of a ply
abbrev pub reach_level : Solution → ℕ → Level
reach_level s ply mask = as_set (reach_at s ply mask)

abbrev pub kept_level : Solution → ℕ → Level
kept_level s ply mask = as_set (kept_at s ply mask)

-- the part of the plan that subtracts the second from the first
abbrev pub rest_part : Solution → ℕ → ℕ → Program SetOf
rest_part s ply mask = rest_set (rules_of s.position) ply (reach_level s ply) (kept_level s ply) mask

-- the result is what is left of the reached set, or the first step of that part that exceeds the budget
abbrev pub AnswersRest : Solution → ℕ → ℕ → ℕ → Result Left (PlanError PartName) → Type 0
AnswersRest s ply mask budget result = Answers (rest_part s ply mask) budget (left_of (reach_level s ply mask)) result

-- no step of that part exceeds the budget, after each move of the loser
abbrev pub RestsFit : Solution → ℕ → Type 0
RestsFit s budget =
    (ply mask : ℕ) → IsLosersPly s.winner s.position s.moves ply → IsGameMask s.position mask
    → IsWithin (rest_part s (suc ply) mask) budget
