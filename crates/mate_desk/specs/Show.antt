-- The report of `show`.
use Rattle.std.specs.Prelude.{◌≡◌, ◌⊎◌, ℕ, List, ◌++◌, codes, count_by, is_some}
use Rattle.std.specs.Fmt.{decimal}
use Rattle.desk_base.specs.Files.{Files}
use Rattle.game_rules.specs.Game.{Position, InCheck, square_of}
use Rattle.chess_text.specs.PositionText.{position_text}
use Rattle.desk_report.specs.Outcome.{Report, done_with}
use Rattle.desk_text.specs.declared.problem.Problem.{Problem}

-- the line says whether the side to move is in check
abbrev pub IsCheckLine : Position → List ℕ → Type 0
IsCheckLine p line =
    ((line ≡ codes "check yes\n") × InCheck p p.turn)
    ⊎ ((line ≡ codes "check no\n") × (InCheck p p.turn → ⊥))

-- the number of men that are not captured
abbrev pub live_count : Position → ℕ
live_count p = count_by (λ m. is_some (square_of m)) p.men

abbrev pub live_line : Position → List ℕ
live_line p = codes "live " ++ decimal (live_count p) ++ codes "\n"

-- the text of a problem, whether the side to move is in check, and the number of live men
abbrev pub IsShown : Problem → List ℕ → Type 0
IsShown problem text =
    (check : List ℕ) × IsCheckLine problem.position check
    × (text ≡ position_text problem.position problem.winner ++ check ++ live_line problem.position)

abbrev pub ShowReports : Problem → Files → Report → Type 0
ShowReports problem files report = (text : List ℕ) × IsShown problem text × (report ≡ done_with files text)
