-- Laws of the text at the front of an input.
use Rattle.std.specs.Prelude.{List, ℕ, ◌++◌, length}
use Rattle.desk_base.specs.Lines.{lines_of}
use Rattle.game_rules.specs.Game.{Position}
use Rattle.game_rules.specs.declared.men.Side.{Side}
use Rattle.chess_text.specs.PositionText.{IsWritable, draft_of, position_lines, position_text}
use Rattle.desk_text.specs.Text.{TextAt, problem_of, whole}
use Rattle.desk_text.specs.declared.problem.Problem.{Problem}

-- the problem that the text of a position and its winner states
abbrev pub text_problem : Position → Side → Problem
text_problem p winner = problem_of (draft_of p winner) (length (position_lines p winner))

-- the text of a position and its winner, whatever follows it, is read as that position and winner, with its number of
-- lines
abbrev pub TextIsRead : Type 0
TextIsRead =
    (p : Position) (winner : Side) (rest : List ℕ) → IsWritable p
    → TextAt (position_text p winner ++ rest) (whole (text_problem p winner) (lines_of rest))
