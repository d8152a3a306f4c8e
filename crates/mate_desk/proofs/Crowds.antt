-- What `crowd` reports.
use Rattle.std.proofs.Common.{◌≡◌, ℕ, List, [], ◌++◌, take, inl, inr, sym, ap, subst, ◌∙◌}
use Rattle.std.proofs.lemmas.List.{append-nil}
use Rattle.desk_base.specs.Files.{Files}
use Rattle.desk_base.specs.Lines.{lines_of}
use Rattle.game_rules.specs.Game.{Position}
use Rattle.game_rules.specs.declared.men.Side.{Side}
use Rattle.desk_crowd.specs.Crowd.{CrowdReports, crowd_texts}
use Rattle.desk_report.specs.Outcome.{Report, done_with}
use Rattle.desk_report.specs.declared.status.Status.TheVariants as is
use Rattle.desk_solve.specs.Decide.{DecideReports}
use Rattle.desk_text.specs.Text.{IsTextOf, problems, whole}
use Rattle.desk_text.specs.declared.problem.Problem.{Problem}
use Rattle.desk_verdict.specs.Verdict.{IsVerdict, mate_line, no_mate_line}
use Rattle.desk_verdict.proofs.Rows.{once_verdict}
use Rattle.desk_args.specs.declared.order.Order.TheVariants.{Crowd, Decide}
use Rattle.mate_desk.specs.Laws.{CrowdAgrees, CrowdDecides, CrowdWrites, DecidesCrowd}
use Rattle.mate_desk.proofs.Exact.{done_text, mate_exact, no_mate_exact, of_lines, of_words, one_of_two}
use Rattle.mate_desk.proofs.Headline.{given_bytes, one_of, same_text, take_none, through, told_bytes}

decided : (n budget : ℕ) (problem : Problem) (files : Files) (report : Report) → CrowdReports n budget problem files report → DecidesCrowd n budget problem files report
decided n budget problem files report (inl over) = inl over
decided n budget problem files report (inr (fits, (line, inl (is', value), right))) = inr (inl (value, right ∙ ap (done_with files) is'))
decided n budget problem files report (inr (fits, (line, inr (is', none), right))) = inr (inr (none, right ∙ ap (done_with files) is'))

pub crowd_decides : CrowdDecides
crowd_decides words bytes files n budget problem rest report ordered at sound reports =
    decided n budget problem files report
    (of_lines crowd_texts (λ read behind. CrowdReports n budget read files) files (lines_of bytes) problem rest report at sound
    (of_words words bytes files (Crowd n budget) report ordered reports))

-- a report that is done says one of the two lines
record Says (n : ℕ) (problem : Problem) (files : Files) (report : Report) : Type 0 where
  line : List ℕ
  verdict : IsVerdict n problem line
  done : report ≡ done_with files line

module _ (n budget : ℕ) (problem : Problem) (files : Files) (report : Report) (done : report.status ≡ is.Done) where
  decide_says : DecideReports n budget problem files report → Says n problem files report
  decide_says (inl (step, over, is')) = absurd (let other : is.Budget ≡ is.Done = sym (ap (λ r. r.status) is') ∙ done in cc)
  decide_says (inr (fits, (line, verdict, is'))) = record { line = line; verdict = verdict; done = is' }

  crowd_says : CrowdReports n budget problem files report → Says n problem files report
  crowd_says (inl (step, over, is')) = absurd (let other : is.Budget ≡ is.Done = sym (ap (λ r. r.status) is') ∙ done in cc)
  crowd_says (inr (fits, (line, verdict, is'))) = record { line = line; verdict = verdict; done = is' }

-- a verdict is of the position and the winner
moved : (n : ℕ) (crowd problem : Problem) (line : List ℕ) → crowd.position ≡ problem.position → crowd.winner ≡ problem.winner → IsVerdict n crowd line → IsVerdict n problem line
moved n crowd problem line position winner verdict =
    let At : Position → Type 0 = λ p. IsVerdict n (record { position = p; winner = crowd.winner; lines = 0 }) line in
    let Of : Side → Type 0 = λ w. IsVerdict n (record { position = problem.position; winner = w; lines = 0 }) line in
    subst Of winner (subst At position verdict)

pub crowd_agrees : CrowdAgrees
crowd_agrees words later bytes input files n budget other one two ordered ordered_too texts reports reports_too done done_too =
    let problem = texts.problem in
    let crowd = texts.crowd in
    let a = decide_says n budget problem files one done
    (done_text problems (λ read behind. DecideReports n budget read files) files (lines_of bytes) problem texts.rest one texts.text done
    (of_words words bytes files (Decide n budget) one ordered reports)) in
    let b = crowd_says n other crowd files two done_too
    (done_text crowd_texts (λ read behind. CrowdReports n other read files) files (lines_of input) crowd texts.behind two texts.crowd_text done_too
    (of_words later input files (Crowd n other) two ordered_too reports_too)) in
    let same = once_verdict n problem a.line b.line a.verdict (moved n crowd problem b.line texts.position texts.winner b.verdict) in
    a.done ∙ ap (done_with files) same ∙ sym b.done

pub crowd_writes : CrowdWrites
crowd_writes words n budget input problem rest old new out ordered told at before run =
    let given = run.given in
    let report = run.ends.0 in
    let done : report.status ≡ is.Done = sym run.ends.2.reported in
    let bytes = given.taken ++ given.rest in
    let same : input ≡ bytes = given_bytes old.left new.left input given.taken given.rest told given.consumed given.left in
    let here : IsTextOf crowd_texts (lines_of bytes) (whole problem rest) = subst (λ (b : List ℕ). IsTextOf crowd_texts (lines_of b) (whole problem rest)) same at in
    let says = crowd_says n budget problem given.files report done
    (done_text crowd_texts (λ read behind. CrowdReports n budget read given.files) given.files (lines_of bytes) problem rest report here done
    (of_words words bytes given.files (Crowd n budget) report ordered run.ends.1)) in
    let written = run.ends.2.written in
    let all = told_bytes old.written new.written out (report.text ++ take written.count report.fault) before written.front in
    let text : report.text ≡ says.line = ap (λ r. r.text) says.done in
    let none : report.fault ≡ [] = ap (λ r. r.fault) says.done in
    let line : all.0 ≡ out ++ says.line =
    all.2 ∙ ap (λ l. out ++ l) (ap (λ l. report.text ++ l) (take_none written.count report.fault none) ∙ append-nil report.text ∙ text) in (
      all.0,
      all.1,
      record {
        one = one_of n out says.line all.0 line (one_of_two n problem says.line says.verdict);
        mate = through (same_text out says.line all.0 (mate_line n) line) (mate_exact n problem says.line says.verdict);
        no_mate = through (same_text out says.line all.0 (no_mate_line n) line) (no_mate_exact n problem says.line says.verdict);
      },
    )
