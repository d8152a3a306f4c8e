-- What is reported of `show` is one report.
use Rattle.std.proofs.Common.{◌≡◌, ◌++◌, ℕ, List, inl, inr, sym, ◌∙◌, ap}
use Rattle.desk_base.specs.Files.{Files}
use Rattle.game_rules.specs.Game.{Position}
use Rattle.chess_text.specs.PositionText.{position_text}
use Rattle.desk_text.specs.declared.problem.Problem.{Problem}
use Rattle.desk_report.proofs.One.{IsOne, line_row}
use Rattle.mate_desk.specs.Show.{IsCheckLine, IsShown, ShowReports, live_line}

once_check : (p : Position) (one other : List ℕ) → IsCheckLine p one → IsCheckLine p other → one ≡ other
once_check p one other (inl (a, v)) (inl (b, w)) = a ∙ sym b
once_check p one other (inl (a, v)) (inr (b, w)) = absurd (w v)
once_check p one other (inr (a, v)) (inl (b, w)) = absurd (v w)
once_check p one other (inr (a, v)) (inr (b, w)) = a ∙ sym b

pub show_row : (problem : Problem) (files : Files) → IsOne (ShowReports problem files)
show_row problem files =
    let p = problem.position in
    line_row (IsShown problem) (λ text. text) files
    (λ t u a b. a.2 ∙ ap (λ check. position_text p problem.winner ++ check ++ live_line p) (once_check p a.0 b.0 a.1 b.1) ∙ sym b.2)
