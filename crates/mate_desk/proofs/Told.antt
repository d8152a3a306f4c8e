-- What comes of a run on the text of a sound position that its source tells.
use Rattle.std.proofs.Common.{◌≡◌, ◌≢◌, ℕ, List, ◌++◌, take, drop, Some, inl, inr, refl, sym, ◌∙◌, ap, subst, append_assoc}
use Rattle.std.proofs.lemmas.List.{drop_all, take-append-drop}
use Rattle.std.specs.Prelude.{codes}
use Rattle.desk_base.specs.Files.{Files}
use Rattle.desk_base.specs.Lines.{Lines, lines_of}
use Rattle.desk_base.specs.Moves.{AppendsFront}
use Rattle.game_rules.specs.Game.{Position}
use Rattle.game_rules.specs.declared.men.Side.{Side}
use Rattle.chess_text.specs.PositionText.{position_text}
use Rattle.chess_text.specs.declared.reader.ReaderState.TheVariants.{Header}
use Rattle.desk_text.specs.Text.{Text, TextAt, problems, refused, whole}
use Rattle.desk_text.specs.TextLaws.{text_problem}
use Rattle.desk_text.specs.declared.problem.Problem.{Problem}
use Rattle.desk_text.proofs.MoreLines.{text_more}
use Rattle.desk_text.proofs.OneText.{once_text}
use Rattle.desk_text.proofs.RoundTrip.{text_is_read}
use Rattle.desk_report.specs.Outcome.{DoesReport, Report, Seen, WriteFailed, Writes}
use Rattle.desk_report.specs.declared.status.Status.{Status}
use Rattle.desk_report.specs.declared.status.Status.TheVariants as is
use Rattle.desk_solve.specs.Decide.{IsExact}
use Rattle.desk_args.specs.declared.order.Order.{Order}
use Rattle.desk_args.specs.declared.order.Order.TheVariants as orders
use Rattle.desk_games.specs.Defend.{DefendReports}
use Rattle.desk_games.specs.Play.{PlayReports}
use Rattle.desk_report.specs.OfText.{OfRead, OfSound}
use Rattle.mate_desk.specs.Command.{OfText}
use Rattle.mate_desk.specs.Laws.{Causes, DecideEnds, DefendsGame, DefendWrites, GameWrites, IsTold, IsWritten, PlaysGame, PlaysTaken, PlayWrites, WritesGame, WritesTaken}
use Rattle.mate_desk.specs.Report.{Reports, ReportsOrder, UsesNoShelf}
use Rattle.mate_desk.specs.Run.{RunEnds}
use Rattle.mate_desk.proofs.Defended.{says_defence}
use Rattle.mate_desk.proofs.Exact.{decides_exactly, of_sound, of_text, of_words}
use Rattle.mate_desk.proofs.Following.{says_game}
use Rattle.mate_desk.proofs.Headline.{given_bytes, told_bytes}
use Rattle.mate_desk.proofs.StatusLaws.{memory_last, no_shelf_fault, ordered_not_usage}

take_and_drop : (n : ℕ) (xs : List ℕ) → take n xs ++ drop n xs ≡ xs
take_and_drop n xs = take-append-drop n xs

module _ (words : List (List ℕ)) (order : Order) (p : Position) (winner : Side) (status : Status) (old new : Seen) (told : IsTold words order p winner old) (run : RunEnds words status old new) where
  -- the problem that was read
  abbrev problem : Problem
  problem = text_problem p winner

  abbrev all_bytes : List ℕ
  all_bytes = run.given.taken ++ run.given.rest

  is_read : TextAt all_bytes (whole problem (lines_of told.behind))
  is_read =
      let P : List ℕ → Type 0 = λ b. TextAt b (whole problem (lines_of told.behind)) in
      subst P (given_bytes old.left new.left (position_text p winner ++ told.behind) run.given.taken run.given.rest told.input run.given.consumed run.given.left)
      (text_is_read p winner told.behind told.writable)

-- what is written of a text and a fault line
module _ (out : List ℕ) (old new : Seen) (before : old.written ≡ Some out) (text fault : List ℕ) where
  abbrev Wrote : Type 0
  Wrote = (all : List ℕ) × (new.written ≡ Some all) × IsWritten text fault out all (WriteFailed old new)

  both_written : Writes text fault old.written new.written (WriteFailed old new) → Wrote
  both_written w =
      let some = told_bytes old.written new.written out (text ++ take w.count fault) before w.front in (
        some.0,
        some.1,
        record {
          missing = drop w.count fault;
          front =
              ap (λ l. l ++ drop w.count fault) some.2 ∙ append_assoc out (text ++ take w.count fault) (drop w.count fault)
              ∙ ap (λ l. out ++ l) (append_assoc text (take w.count fault) (drop w.count fault) ∙ ap (λ l. text ++ l) (take_and_drop w.count fault));
          whole = elim w.whole [
            | inl all ↦ inl (drop_all w.count fault all)
            | inr failed ↦ inr failed
          ];
        },
      )

  some_written : AppendsFront old.written new.written text → WriteFailed old new → Wrote
  some_written w failed =
      let some = told_bytes old.written new.written out (take w.count text) before w.front in (
        some.0,
        some.1,
        record {
          missing = drop w.count text ++ fault;
          front =
              ap (λ l. l ++ (drop w.count text ++ fault)) some.2 ∙ append_assoc out (take w.count text) (drop w.count text ++ fault)
              ∙ ap (λ l. out ++ l) (sym (append_assoc (take w.count text) (drop w.count text) fault) ∙ ap (λ l. l ++ fault) (take_and_drop w.count text));
          whole = inr failed;
        },
      )

-- an order that plays a game: what it reports of a text is what `Says` says of the problem and the lines, and so `Plays`
module _ (words : List (List ℕ)) (order : Order) (Says Plays : Problem → Lines → Files → Report → Type 0)
    (reads : (bytes : List ℕ) (files : Files) (report : Report) → ReportsOrder order words bytes files report → OfText (λ problem lines. Says problem lines files) files bytes report)
    (plays : (problem : Problem) (lines : Lines) (files : Files) (report : Report) → Says problem lines files report → Plays problem lines files report)
    (no_shelf : UsesNoShelf order) (p : Position) (winner : Side) (old new : Seen) (out : List ℕ) (told : IsTold words order p winner old) (before : old.written ≡ Some out) where
  abbrev first : Problem
  first = text_problem p winner

  game : (status : Status) (run : RunEnds words status old new) (report : Report)
      → Reports words (run.given.taken ++ run.given.rest) run.given.files report → Wrote out old new before report.text report.fault → WritesGame Plays p winner told.behind old new out
  game status run report reports wrote = record {
    all = wrote.0;
    told = wrote.1;
    files = run.given.files;
    report = report;
    plays =
        let bytes = run.given.taken ++ run.given.rest in
        let files = run.given.files in
        plays first (lines_of told.behind) files report
        (of_text (λ problem lines. Says problem lines files) files bytes first (lines_of told.behind) report (is_read words order p winner status old new told run) told.sound
        (reads bytes files report (of_words words bytes files order report told.ordered reports)));
    writes = wrote.2;
  }

  done : (status : Status) (run : RunEnds words status old new) (report : Report) → Reports words (run.given.taken ++ run.given.rest) run.given.files report
      → DoesReport status report old new → WritesGame Plays p winner told.behind old new out
  done status run report reports does = game status run report reports (both_written out old new before report.text report.fault does.written)

  writes_by : (status : Status) → status ≢ is.ReadFault → status ≢ is.Memory → RunEnds words status old new → WritesGame Plays p winner told.behind old new out
  writes_by is.Done no_fault memory run = done is.Done run run.ends.0 run.ends.1 run.ends.2
  writes_by is.Usage no_fault memory run = done is.Usage run run.ends.0 run.ends.1 run.ends.2
  writes_by is.Text no_fault memory run = done is.Text run run.ends.0 run.ends.1 run.ends.2
  writes_by is.Unsound no_fault memory run = done is.Unsound run run.ends.0 run.ends.1 run.ends.2
  writes_by is.Budget no_fault memory run = done is.Budget run run.ends.0 run.ends.1 run.ends.2
  writes_by is.Wide no_fault memory run = done is.Wide run run.ends.0 run.ends.1 run.ends.2
  writes_by is.File no_fault memory run = done is.File run run.ends.0 run.ends.1 run.ends.2
  writes_by is.Ended no_fault memory run = done is.Ended run run.ends.0 run.ends.1 run.ends.2
  writes_by is.TooMany no_fault memory run = done is.TooMany run run.ends.0 run.ends.1 run.ends.2
  writes_by is.WriteFault no_fault memory run =
      let report = run.ends.0 in
      game is.WriteFault run report run.ends.1 (some_written out old new before report.text report.fault run.ends.2.written run.ends.2.failed)
  writes_by is.ReadFault no_fault memory run = absurd (no_fault refl)
  writes_by is.Memory no_fault memory run = absurd (memory refl)
  writes_by is.ShelfFault no_fault memory run = absurd (no_shelf_fault words order is.ShelfFault old new told.ordered no_shelf run refl)

  -- what was taken of a source that failed is a text cut short, or the text of the position and some lines
  module _ (taken rest : List ℕ) (files : Files) (report : Report) (input : TextAt (taken ++ rest) (whole first (lines_of told.behind))) where
    abbrev SaysHere : Problem → Lines → Report → Type 0
    SaysHere problem lines = Says problem lines files

    as_first : (problem : Problem) (lines : Lines) → problem ≡ first → TextAt taken (whole problem lines) → OfSound (SaysHere problem lines) files problem.position report
        → PlaysTaken Plays first taken files report
    as_first told_problem lines same at right =
        let At : Problem → Type 0 = λ q. TextAt taken (whole q lines) in
        let Right : Problem → Type 0 = λ q. OfSound (SaysHere q lines) files q.position report in
        inr (lines, subst At same at, plays first lines files report (of_sound (SaysHere first lines) files first report told.sound (subst Right same right)))

    taken_plays : (text : Text Problem) → TextAt taken text → OfRead SaysHere files text report → PlaysTaken Plays first taken files report
    taken_plays (refused number why) at is' = inl (number, why, at, ap (λ r. r.text) is')
    taken_plays (whole problem lines) at right =
        let more = text_more problems problem lines taken at in
        let behind = lines_of (more.behind ++ rest) in
        let texts = once_text problems Header 1 (lines_of (taken ++ rest)) (whole problem behind) (whole first (lines_of told.behind)) (more.reads rest) input in
        let same : problem ≡ first = cc in
        as_first problem lines same at right

  writes_taken : RunEnds words is.ReadFault old new → WritesTaken Plays p winner (position_text p winner ++ told.behind) old new out
  writes_taken run =
      let taken = run.given.taken in
      let report = run.ends.0 in
      let read = reads taken run.given.files report (of_words words taken run.given.files order report told.ordered run.ends.1) in
      let wrote = both_written out old new before report.text (codes "read fault\n") run.ends.2.written in
      record {
        taken = taken;
        rest = run.given.rest;
        input_is = given_bytes old.left new.left (position_text p winner ++ told.behind) taken run.given.rest told.input run.given.consumed run.given.left;
        all = wrote.0;
        told = wrote.1;
        files = run.given.files;
        report = report;
        plays = taken_plays taken run.given.rest run.given.files report (is_read words order p winner is.ReadFault old new told run) read.0 read.1 read.2;
        writes = wrote.2;
      }

-- so it is with the orders of which this holds whatever their numbers are
module _ (order : (n budget : ℕ) → Order) (Says Plays : (n budget : ℕ) → Problem → Lines → Files → Report → Type 0)
    (reads : (n budget : ℕ) (words : List (List ℕ)) (bytes : List ℕ) (files : Files) (report : Report) → ReportsOrder (order n budget) words bytes files report
    → OfText (λ problem lines. Says n budget problem lines files) files bytes report)
    (plays : (n budget : ℕ) (problem : Problem) (lines : Lines) (files : Files) (report : Report) → Says n budget problem lines files report → Plays n budget problem lines files report)
    (no_shelf : (n budget : ℕ) → UsesNoShelf (order n budget)) where
  game_writes : GameWrites order Plays
  game_writes = record {
    game = λ words n budget p winner status old new out told before no_fault memory run.
        writes_by words (order n budget) (Says n budget) (Plays n budget) (reads n budget words) (plays n budget) (no_shelf n budget) p winner old new out told before status no_fault memory run;
    taken = λ words n budget p winner old new out told before run.
        writes_taken words (order n budget) (Says n budget) (Plays n budget) (reads n budget words) (plays n budget) (no_shelf n budget) p winner old new out told before run;
  }

pub play_writes : PlayWrites
play_writes = game_writes (λ n budget. orders.Play n budget) PlayReports PlaysGame (λ n budget words bytes files report right. right) says_game (λ n budget. tt)

pub defend_writes : DefendWrites
defend_writes = game_writes (λ n budget. orders.Defend n budget) DefendReports DefendsGame (λ n budget words bytes files report right. right) says_defence (λ n budget. tt)

-- a run of `decide` that reports is done, or over budget
module _ (words : List (List ℕ)) (n budget : ℕ) (p : Position) (winner : Side) (old new : Seen) (told : IsTold words (orders.Decide n budget) p winner old) where
  abbrev asked : Problem
  asked = text_problem p winner

  exact : (status : Status) (run : RunEnds words status old new) (report : Report) → Reports words (run.given.taken ++ run.given.rest) run.given.files report
      → IsExact n budget asked report
  exact status run report reports =
      decides_exactly words (run.given.taken ++ run.given.rest) run.given.files n budget asked (lines_of told.behind) report told.ordered
      (is_read words (orders.Decide n budget) p winner status old new told run) told.sound reports

  caused : (status : Status) (report : Report) → status ≡ report.status → IsExact n budget asked report → (status ≢ is.Done) → (status ≢ is.Budget) → ⊥
  caused status report same right not_done not_over = elim right.cause [
    | inl answered ↦ not_done (same ∙ answered.status)
    | inr named ↦ not_over (same ∙ named.status)
  ]

  past : (report : Report) → is.Budget ≡ report.status → IsExact n budget asked report → Causes n budget asked is.Budget old new
  past report same right = elim right.cause [
    | inl answered ↦ absurd (let e : is.Budget ≡ is.Done = same ∙ answered.status in cc)
    | inr named ↦ (named.step, named.first)
  ]

  causes : (status : Status) → RunEnds words status old new → Causes n budget asked status old new
  causes is.Done run = tt
  causes is.Budget run = past run.ends.0 run.ends.2.reported (exact is.Budget run run.ends.0 run.ends.1)
  causes is.ReadFault run = run.ends.2.failed
  causes is.WriteFault run = run.ends.2.failed
  causes is.Memory run =
      ((memory_last words old new run).of_text (orders.Decide n budget) (position_text p winner ++ told.behind) asked (lines_of told.behind) told.ordered tt told.input
      (text_is_read p winner told.behind told.writable)).1
  causes is.ShelfFault run = absurd (no_shelf_fault words (orders.Decide n budget) is.ShelfFault old new told.ordered tt run refl)
  causes is.Usage run = absurd (ordered_not_usage words (orders.Decide n budget) is.Usage old new told.ordered run refl)
  causes is.Text run = caused is.Text run.ends.0 run.ends.2.reported (exact is.Text run run.ends.0 run.ends.1) (λ e. absurd (cc)) (λ e. absurd (cc))
  causes is.Unsound run = caused is.Unsound run.ends.0 run.ends.2.reported (exact is.Unsound run run.ends.0 run.ends.1) (λ e. absurd (cc)) (λ e. absurd (cc))
  causes is.Wide run = caused is.Wide run.ends.0 run.ends.2.reported (exact is.Wide run run.ends.0 run.ends.1) (λ e. absurd (cc)) (λ e. absurd (cc))
  causes is.File run = caused is.File run.ends.0 run.ends.2.reported (exact is.File run run.ends.0 run.ends.1) (λ e. absurd (cc)) (λ e. absurd (cc))
  causes is.Ended run = caused is.Ended run.ends.0 run.ends.2.reported (exact is.Ended run run.ends.0 run.ends.1) (λ e. absurd (cc)) (λ e. absurd (cc))
  causes is.TooMany run = caused is.TooMany run.ends.0 run.ends.2.reported (exact is.TooMany run run.ends.0 run.ends.1) (λ e. absurd (cc)) (λ e. absurd (cc))

pub decide_ends : DecideEnds
decide_ends words n budget p winner status old new told run = causes words n budget p winner old new told status run
