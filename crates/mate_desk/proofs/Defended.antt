-- What `defend` reports of a game.
use Rattle.std.proofs.Common.{ℕ, inl, inr, refl}
use Rattle.desk_base.specs.Files.{Files}
use Rattle.desk_base.specs.Lines.{Lines}
use Rattle.loser_session.proofs.Matches.{first_unwon}
use Rattle.loser_player.proofs.Saving.{report_saved}
use Rattle.desk_games.specs.Defend.{DefendReports, first_defence}
use Rattle.desk_report.specs.Outcome.{Report}
use Rattle.desk_text.specs.declared.problem.Problem.{Problem}
use Rattle.desk_args.specs.declared.order.Order.TheVariants.{Defend}
use Rattle.mate_desk.specs.Laws.{Defends, DefendsGame}
use Rattle.mate_desk.proofs.Exact.{of_text, of_words}

pub says_defence : (n budget : ℕ) (problem : Problem) (lines : Lines) (files : Files) (report : Report)
    → DefendReports n budget problem lines files report → DefendsGame n budget problem lines files report
says_defence n budget problem lines files report (inl over) = inl over
says_defence n budget problem lines files report (inr (fits, inl won)) = inr (inl won)
says_defence n budget problem lines files report (inr (fits, inr (none, (played, right, is)))) =
    let first = first_defence n problem in
    inr (inr (none, (played, right, is, report_saved problem.lines lines first played (first_unwon first refl refl none) right)))

pub defends : Defends
defends words bytes files n budget problem rest report ordered at sound reports =
    says_defence n budget problem rest files report
    (of_text (λ read behind. DefendReports n budget read behind files) files bytes problem rest report at sound (of_words words bytes files (Defend n budget) report ordered reports))
