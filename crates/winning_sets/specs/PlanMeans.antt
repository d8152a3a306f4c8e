-- The meaning of the sets that a plan computes.
use Rattle.std.specs.Prelude.{◌≡◌, ◌↔◌, ◌⊎◌, ℕ, suc, ◌+◌, ◌-◌, ◌/◌, ◌<◌, ◌≤◌, List, length, Some, All, IsSomeAnd, ℤ, slice_get}
use Rattle.track_word.specs.Tracks.{IsAscending}
use Rattle.auto_core.specs.Automaton.{Automaton}
use Rattle.auto_core.specs.Integers.{DecidesIntegers}
use Rattle.game_rules.specs.Game.{Position, Sound, Value, other}
use Rattle.game_rules.specs.declared.men.Side.{Side}
use Rattle.lin_formula.specs.SetOf.{Member, SetOf, Table}
use Rattle.mask_sets.specs.Stock.{mask_of}
use Rattle.mask_sets.specs.Tuple.{tuple_of}
use Rattle.set_plan.specs.Program.{Entry, Takes}
use Rattle.winning_sets.specs.Kept.{Kept, moves_left}
use Rattle.mate_plan.specs.PlanOf.{last_ply, plan_of, rules_of}
use Rattle.mate_plan.specs.Plan.{Level, forward}
use Rattle.winning_sets.specs.Reach.{Reach}
use Rattle.winning_sets.specs.Solve.{AreKept, IsKeptIn, IsTupleOf, Solution, end_of, kept_at}
use Rattle.mate_plan.specs.declared.names.PartName.{PartName}

-- each tuple is known to be in the set or not to be in it
abbrev pub IsDecided : SetOf → Type 0
IsDecided s = (tuple : List ℤ) → Member s tuple ⊎ (¬ Member s tuple)

abbrev pub AreDecided : List Level → Type 0
AreDecided levels = All (λ level. (mask : ℕ) → IsDecided (level mask)) levels

-- the set of each mask has exactly the coordinates of the positions with this mask
pub record IsLevelOf (Set : Position → Type 0) (level : Level) : Type 0 where
  pub same : (mask : ℕ) (tuple : List ℤ) → Member (level mask) tuple ↔ IsTupleOf Set mask tuple

-- there is one level for each number up to `last`, and it is the level of that number's positions
pub record AreLevelsOf (Set : ℕ → Position → Type 0) (last : ℕ) (levels : List Level) : Type 0 where
  pub count : length levels ≡ suc last
  pub each : (number : ℕ) (level : Level) → slice_get levels number ≡ Some level → IsLevelOf (Set number) level

-- the entries are those of a whole run of the program, which gives these levels
abbrev pub Gives : Side → Position → ℕ → List (Entry PartName) → List Level → Type 0
Gives winner p moves entries levels = Takes (plan_of winner p moves) entries (Some levels)

-- the levels that a plan computes forward are those of the reached positions, the last ply first
abbrev pub ForwardIsReach : Type 0
ForwardIsReach =
    (p : Position) (ply : ℕ) (entries : List (Entry PartName)) (levels : List Level) → Sound p → length p.men ≤ 8
    → Takes (forward (rules_of p) p.turn (mask_of p) ply) entries (Some levels)
    → AreLevelsOf (λ number. Reach p (ply - number)) ply levels

-- the levels that a plan gives are those of the kept positions, the first ply first
abbrev pub PlanIsKept : Type 0
PlanIsKept =
    (winner : Side) (p : Position) (moves : ℕ) (entries : List (Entry PartName)) (levels : List Level) → Sound p
    → length p.men ≤ 8
    → 0 < last_ply winner p.turn moves → AreDecided levels → Gives winner p moves entries levels
    → AreLevelsOf (Kept winner p moves) (last_ply winner p.turn moves) levels

-- the winner makes every second move, and the first one if it is his turn at the start
abbrev pub MovesAreCounted : Type 0
MovesAreCounted =
    (winner : Side) (moves ply : ℕ)
    → (moves_left (last_ply winner winner moves) ply ≡ moves - (ply + 1) / 2)
    × (moves_left (last_ply winner (other winner) moves) ply ≡ moves - ply / 2)

-- at the last ply nothing is kept
abbrev pub NoneIsKeptLast : Type 0
NoneIsKeptLast = (winner : Side) (p q : Position) (moves : ℕ) → Kept winner p moves (last_ply winner p.turn moves) q → ⊥

-- the winner mates in time if and only if the starting position is in the plan's first set
abbrev pub FirstIsValue : Type 0
FirstIsValue =
    (winner : Side) (p : Position) (moves : ℕ) (entries : List (Entry PartName)) (levels : List Level) → Sound p
    → length p.men ≤ 8
    → AreDecided levels → Gives winner p moves entries levels
    → Value winner moves p ↔ IsSomeAnd (slice_get levels 0) (λ level. Member (level (mask_of p)) (tuple_of p))

-- an automaton that decides a set of integers is known to accept or not to accept each tuple
abbrev pub TablesAreDecided : Type 0
TablesAreDecided = (a : Automaton) → IsAscending a.tracks → DecidesIntegers a → IsDecided (Table a)

-- a position is in the kept set of its mask if and only if it is kept
abbrev pub KeepsIsKept : Type 0
KeepsIsKept =
    (s : Solution) (ply : ℕ) (q : Position) → Sound s.position → length s.position.men ≤ 8
    → AreKept s.winner s.position s.moves (kept_at s)
    → IsKeptIn s ply q ↔ ((ply ≤ end_of s) × Kept s.winner s.position s.moves ply q)
