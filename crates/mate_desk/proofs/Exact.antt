-- A report of `decide` is exact, and so is one of `arith`.
use Rattle.std.proofs.Common.{◌≡◌, ◌↔◌, ◌⊎◌, ℕ, List, Result, Ok, inl, inr, refl, ap, sym, subst, ◌∙◌, get_or, arith}
use Rattle.desk_base.specs.Files.{Files}
use Rattle.desk_base.specs.Lines.{Lines, lines_of}
use Rattle.game_rules.specs.Game.{Position, SoundWithKings, Value}
use Rattle.chess_game.proofs.UnsoundnessLemmas.{unsound_refuted}
use Rattle.chess_text.specs.declared.reader.ReaderState.TheVariants.{Header}
use Rattle.lin_formula.specs.Tree.{Tree}
use Rattle.arith_desk.specs.Reading.{IsFormulaLine}
use Rattle.arith_desk.proofs.OneStop.{formula_is_not_refused, one_meaning}
use Rattle.desk_formula.specs.Arith.{ArithReports, FormulaReports, LineReports, truth_line}
use Rattle.desk_formula.proofs.Answered.{answers}
use Rattle.desk_solve.specs.Decide.{DecideReports, IsExact}
use Rattle.mate_desk.specs.Laws.{AnswersExactly, DecidesExactly, ReportsAnswer}
use Rattle.desk_args.specs.Order.{Ordered}
use Rattle.desk_report.specs.Outcome.{Report}
use Rattle.desk_report.specs.declared.status.Status.TheVariants as is
use Rattle.desk_report.specs.OfText.{OfLines, OfRead, OfSound}
use Rattle.mate_desk.specs.Command.{OfText}
use Rattle.mate_desk.specs.Report.{Reports, ReportsOrder, ReportsWords}
use Rattle.desk_text.specs.Text.{IsTextOf, Reading, Text, TextAt, problems, whole}
use Rattle.desk_verdict.specs.Verdict.{IsVerdict, mate_line, no_mate_line}
use Rattle.desk_args.specs.declared.order.Order.{Order}
use Rattle.desk_args.specs.declared.order.Order.TheVariants.{Decide, Arith}
use Rattle.desk_args.specs.declared.order.UsageWhy.{UsageWhy}
use Rattle.desk_text.specs.declared.problem.Problem.{Problem}
use Rattle.desk_args.proofs.OneOrder.{once_words}
use Rattle.desk_text.proofs.OneText.{once_text}

-- what is reported of the text of a sound problem is what its order says
pub of_sound : (says : Report → Type 0) (files : Files) (problem : Problem) (report : Report) → SoundWithKings problem.position → OfSound says files problem.position report → says report
of_sound says files problem report sound (inl (why, fault, is')) = absurd (unsound_refuted why problem.position fault sound)
of_sound says files problem report sound (inr (also, right)) = right

done_sound : (says : Report → Type 0) (files : Files) (p : Position) (report : Report) → report.status ≡ is.Done → OfSound says files p report → says report
done_sound says files p report done (inl (why, fault, is')) = absurd (let other : is.Unsound ≡ is.Done = sym (ap (λ r. r.status) is') ∙ done in cc)
done_sound says files p report done (inr (sound, right)) = right

-- what is reported of the lines that begin with a text is what is reported of the problem that it says
module _ (r : Reading Problem) (says : Problem → Lines → Report → Type 0) (files : Files) (lines : Lines) (problem : Problem) (rest : Lines) (report : Report)
    (at : IsTextOf r lines (whole problem rest)) where
  as_read : OfLines r says files lines report → OfSound (says problem rest) files problem.position report
  as_read read =
      let Q : Text Problem → Type 0 = λ t. OfRead says files t report in
      subst Q (once_text r Header 1 lines read.0 (whole problem rest) read.1 at) read.2

  pub of_lines : SoundWithKings problem.position → OfLines r says files lines report → says problem rest report
  of_lines sound read = of_sound (says problem rest) files problem report sound (as_read read)

  -- and where it is done, its position is sound
  pub done_text : report.status ≡ is.Done → OfLines r says files lines report → says problem rest report
  done_text done read = done_sound (says problem rest) files problem.position report done (as_read read)

pub of_text : (says : Problem → Lines → Report → Type 0) (files : Files) (bytes : List ℕ) (problem : Problem) (rest : Lines) (report : Report)
    → TextAt bytes (whole problem rest) → SoundWithKings problem.position → OfText says files bytes report → says problem rest report
of_text says files bytes problem rest report at sound read = of_lines problems says files (lines_of bytes) problem rest report at sound read

-- what is reported of words is what is reported of the order that they are
pub of_words : (words : List (List ℕ)) (bytes : List ℕ) (files : Files) (order : Order) (report : Report) → Ordered words (Ok order)
    → Reports words bytes files report → ReportsOrder order words bytes files report
of_words words bytes files order report ordered reports =
    let P : Result Order UsageWhy → Type 0 = λ r. ReportsWords r words bytes files report in
    subst P (once_words reports.0 (Ok order) words reports.1 ordered) reports.2

-- the two lines begin with different letters
pub one_line : (n : ℕ) → mate_line n ≡ no_mate_line n → ⊥
one_line n same = let letters : ◌≡◌ {A = ℕ} 109 110 = ap (λ (line : List ℕ). get_or line 0 0) same in absurd (omega arith)

module _ (n : ℕ) (problem : Problem) (text : List ℕ) where
  pub mate_exact : IsVerdict n problem text → (text ≡ mate_line n) ↔ Value problem.winner n problem.position
  mate_exact (inl (is, value)) = (λ _. value, λ _. is)
  mate_exact (inr (is, none)) = (λ same. absurd (one_line n (sym same ∙ is)), λ value. absurd (none value))

  pub no_mate_exact : IsVerdict n problem text → (text ≡ no_mate_line n) ↔ (¬ Value problem.winner n problem.position)
  no_mate_exact (inl (is, value)) = (λ same. absurd (one_line n (sym is ∙ same)), λ none. absurd (none value))
  no_mate_exact (inr (is, none)) = (λ _. none, λ _. is)

  pub one_of_two : IsVerdict n problem text → (text ≡ mate_line n) ⊎ (text ≡ no_mate_line n)
  one_of_two (inl (is, value)) = inl is
  one_of_two (inr (is, none)) = inr is

pub reports_exactly : (n budget : ℕ) (problem : Problem) (files : Files) (report : Report) → DecideReports n budget problem files report → IsExact n budget problem report
reports_exactly n budget problem files report (inl (step, over, is)) =
    let P : Report → Type 0 = λ r. IsExact n budget problem r in
    subst P (sym is) (record {
      cause = inr (record { status = refl; text = refl; step = step; first = over; fault = refl });
      mate = λ done. absurd (cc);
      no_mate = λ done. absurd (cc);
    })
reports_exactly n budget problem files report (inr (fits, (line, verdict, is))) =
    let P : Report → Type 0 = λ r. IsExact n budget problem r in
    subst P (sym is) (record {
      cause = inl (record { status = refl; text = one_of_two n problem line verdict; fault = refl });
      mate = λ _. mate_exact n problem line verdict;
      no_mate = λ _. no_mate_exact n problem line verdict;
    })

pub decides_exactly : DecidesExactly
decides_exactly words bytes files n budget problem rest report ordered at sound reports =
    reports_exactly n budget problem files report
    (of_text (λ read behind. DecideReports n budget read files) files bytes problem rest report at sound (of_words words bytes files (Decide n budget) report ordered reports))

-- what is reported of a formula answers it
formula_exactly : (budget : ℕ) (f : Tree) (files : Files) (report : Report) → FormulaReports budget f files report → ReportsAnswer budget f files report
formula_exactly budget f files report (inl over) = inl over
formula_exactly budget f files report (inr (within, (truth, right, is))) = inr (truth_line truth, answers f truth right, is)

line_exactly : (budget : ℕ) {line : List ℕ} {f : Tree} (files : Files) (report : Report) → IsFormulaLine line f → LineReports budget line files report → ReportsAnswer budget f files report
line_exactly budget {line} {f} files report means (inl (number, fault, is)) = absurd (formula_is_not_refused line f number means fault)
line_exactly budget {line} {f} files report means (inr (g, also, right)) =
    let P : Tree → Type 0 = λ t. FormulaReports budget t files report in
    formula_exactly budget f files report (subst P (one_meaning line g f also means) right)

pub answers_exactly : AnswersExactly
answers_exactly words bytes files budget line rest f report ordered first means reports =
    let P : Lines → Type 0 = λ lines. ArithReports budget lines files report in
    line_exactly budget files report means (subst P first (of_words words bytes files (Arith budget) report ordered reports))
