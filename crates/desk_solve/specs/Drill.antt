-- The positions of `drill`, and its report.
use Rattle.std.specs.Prelude.{◌≡◌, ◌↔◌, ℕ, zero, suc, ◌+◌, ◌*◌, ◌/◌, ◌%◌, ◌^◌, ◌<◌, ◌==◌, if◌then◌else◌, ℤ, pos, negsuc, ◌-ℤ◌, Bool, List, [], ◌∷◌, ◌++◌, length, Some, IsTrue, codes, count_by, slice_get}
use Rattle.std.specs.Fmt.{decimal}
use Rattle.desk_args.specs.declared.order.TheConstants.{DEFAULT_STATES}
use Rattle.desk_base.specs.Files.{Files}
use Rattle.game_rules.specs.Game.{Position, Value}
use Rattle.game_rules.specs.declared.men.Kind.TheVariants.{King, Rook}
use Rattle.game_rules.specs.declared.men.Place.{Place}
use Rattle.game_rules.specs.declared.men.Place.TheVariants.{At}
use Rattle.game_rules.specs.declared.men.Side.TheVariants.{White, Black}
use Rattle.game_laws.specs.Symmetry.{mapped, shift}
use Rattle.winning_sets.specs.declared.names.StepName.{StepName}
use Rattle.desk_report.specs.Outcome.{FirstOver, Report, done_with}
use Rattle.desk_verdict.specs.StepLines.{budget_line}
use Rattle.desk_verdict.specs.Verdict.{ExceedsAt, FitsBudget}
use Rattle.desk_text.specs.declared.problem.Problem.{Problem}

-- the state after this one
abbrev pub next_state : ℕ → ℕ
next_state s = (s * 6364136223846793005 + 1442695040888963407) % 2 ^ 64

-- the state `steps` steps after the seed
abbrev pub state_after : (seed steps : ℕ) → ℕ
state_after seed zero = seed
state_after seed (suc steps) = next_state (state_after seed steps)

-- in each of the eight cases but the first, one white man stands on another square than in the first case
abbrev pub white_king : (case : ℕ) → Place
white_king case = if case == 1 then At (pos 100) (pos 98) else At (pos 0) (negsuc 1)

abbrev pub first_rook : (case : ℕ) → Place
first_rook case =
    if case == 2 then At (pos 10) (pos 2)
    else if case == 4 then At (pos 5) (pos 1)
    else if case == 6 then At (negsuc 9) (pos 1)
    else At (pos 10) (pos 1)

abbrev pub second_rook : (case : ℕ) → Place
second_rook case =
    if case == 3 then At (negsuc 4) (pos 7)
    else if case == 5 then At (pos 5) (negsuc 6)
    else if case == 7 then At (pos 1) (pos 7)
    else At (pos 5) (pos 7)

abbrev pub black_king : Place
black_king = At (pos 0) (pos 0)

-- White, to move, has a king and two rooks against a king
abbrev pub rooks_position : (king first second : Place) → Position
rooks_position king first second = record {
  men =
      record { side = White; kind = King; place = king }
      ∷ record { side = White; kind = Rook; place = first }
      ∷ record { side = White; kind = Rook; place = second }
      ∷ record { side = Black; kind = King; place = black_king }
      ∷ [];
  turn = White;
}

abbrev pub case_position : (case : ℕ) → Position
case_position case = rooks_position (white_king case) (first_rook case) (second_rook case)

-- the offset of the board, from some bits of a state
abbrev pub offset : ℕ → ℤ
offset bits = pos (bits % 4096) -ℤ pos 2048

-- the position of a state: that of its case, with the board moved
abbrev pub position_of : (state : ℕ) → Position
position_of state = mapped (shift (offset (state / 2 ^ 16)) (offset (state / 2 ^ 32))) (case_position (state % 8))

-- White is the winner; there is no text
abbrev pub problem_of : (state : ℕ) → Problem
problem_of state = record { position = position_of state; winner = White; lines = 0 }

-- problem number n, counted from 0, that follows from the seed
abbrev pub drilled : (seed number : ℕ) → Problem
drilled seed number = problem_of (state_after seed (suc number))

-- the problem is one of the first `count`
abbrev pub IsDrilled : (seed count : ℕ) → Problem → Type 0
IsDrilled seed count problem = (number : ℕ) × (number < count) × (problem ≡ drilled seed number)

-- the plans for one move of the problems before this number are within the budget
abbrev pub DrillFits : (seed number : ℕ) → Type 0
DrillFits seed number = (k : ℕ) → k < number → FitsBudget (drilled seed k) DEFAULT_STATES 1

-- the step is the first one that exceeds the budget, in the first problem with such a step
abbrev pub DrillStops : (seed count : ℕ) → StepName → Type 0
DrillStops seed count step =
    (number : ℕ) × (number < count) × DrillFits seed number × ExceedsAt (drilled seed number) DEFAULT_STATES 1 step

-- for each problem, in order, whether White mates in one move
pub record AreVerdicts (seed count : ℕ) (verdicts : List Bool) : Type 0 where
  pub one_each : length verdicts ≡ count
  pub right : (number : ℕ) (won : Bool) → slice_get verdicts number ≡ Some won
      → IsTrue won ↔ Value White 1 (drilled seed number).position

-- White mates in one move in this number of the positions, and the plans for all of them are within the budget
pub record DrillFinds (seed count mates : ℕ) : Type 0 where
  pub fits : DrillFits seed count
  pub verdicts : List Bool
  pub are_verdicts : AreVerdicts seed count verdicts
  pub counted : mates ≡ count_by (λ won. won) verdicts

abbrev pub drill_line : (mates count : ℕ) → List ℕ
drill_line mates count = decimal mates ++ codes " of " ++ decimal count ++ codes " mate in 1\n"

-- in how many of the positions White mates in one move, or the first step that exceeds the budget
abbrev pub DrillReports : (seed count : ℕ) → Files → Report → Type 0
DrillReports seed count files =
    FirstOver budget_line (DrillStops seed count)
    (λ report. (mates : ℕ) × DrillFinds seed count mates × (report ≡ done_with files (drill_line mates count))) files
