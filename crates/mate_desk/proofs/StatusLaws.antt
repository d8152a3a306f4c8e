-- What the status of a run says of its words.
use Rattle.std.proofs.Common.{◌≡◌, ◌≢◌, ◌↔◌, ◌++◌, ℕ, List, [], length, Result, Ok, Err, false, sym, ◌∙◌, ap, subst, arith}
use Rattle.std.specs.Prelude.{IfOk}
use Rattle.desk_base.specs.Files.{Files}
use Rattle.desk_base.specs.Lines.{Lines, ended, lines_of}
use Rattle.mate_desk.specs.Laws.{FaultsAreCounted, MemoryLast, NoShelfFault, UsageExactly}
use Rattle.desk_args.specs.Order.{Ordered, usage_line}
use Rattle.desk_report.specs.Outcome.{Report, Seen, refusal_as}
use Rattle.mate_desk.specs.Command.{IsBehindText}
use Rattle.mate_desk.specs.Report.{OrderMayLack, ReadsNoText, Reports, ReportsWords, TakesMemory, UsesNoShelf}
use Rattle.mate_desk.specs.Run.{RunEnds}
use Rattle.desk_text.specs.Text.{whole}
use Rattle.desk_args.specs.declared.order.Order.{Order}
use Rattle.desk_args.specs.declared.order.UsageWhy.{UsageWhy}
use Rattle.desk_text.specs.declared.problem.Problem.{Problem}
use Rattle.desk_report.specs.declared.status.Status.{Status}
use Rattle.desk_report.specs.declared.status.Status.TheVariants as is
use Rattle.std.proofs.Common.{append_assoc}
use Rattle.chess_text.specs.declared.reader.ReaderState.TheVariants.{Header}
use Rattle.desk_text.specs.Text.{TextAt, problems}
use Rattle.desk_text.proofs.OneText.{once_text}
use Rattle.game_rules.specs.Game.{SoundWithKings}
use Rattle.desk_args.proofs.OneOrder.{once_words}
use Rattle.mate_desk.proofs.Headline.{given_bytes}
use Rattle.desk_text.proofs.MoreLines.{text_more}
use Rattle.mate_desk.proofs.Rows.{in_order, order_status}

pub words_status : (words : List (List ℕ)) (files : Files) (answer : Result Order UsageWhy) (bytes : List ℕ) (report : Report) → Ordered words answer
    → ReportsWords answer words bytes files report → report.status ≡ is.Usage → (why : UsageWhy) × Ordered words (Err why)
words_status words files (Err why) bytes report ordered reports same = (why, ordered)
words_status words files (Ok order) bytes report ordered reports same = absurd (order_status order words bytes files report reports same)

-- words that are an order that reads something are no order that reads nothing
pub no_textless : (words : List (List ℕ)) (order : Order) → Ordered words (Ok order) → (ReadsNoText order → ⊥) → (other : Order) → Ordered words (Ok other) → ReadsNoText other → ⊥
no_textless words order ordered reads other also none =
    let same : order ≡ other = let e = once_words (Ok order) (Ok other) words ordered also in cc in
    reads (subst ReadsNoText (sym same) none)

-- and words that are an order use the shelf as it does
pub unused : (words : List (List ℕ)) (order : Order) → Ordered words (Ok order) → (answer : Result Order UsageWhy) → Ordered words answer → IfOk answer UsesNoShelf → UsesNoShelf order
unused words order ordered answer also none =
    let P : Result Order UsageWhy → Type 0 = λ r. IfOk r UsesNoShelf in
    subst P (once_words answer (Ok order) words also ordered) none

-- of words that are no order one thing is reported
usage_reported : (words : List (List ℕ)) (files : Files) (bytes : List ℕ) (report : Report) (why : UsageWhy) → Ordered words (Err why)
    → Reports words bytes files report → report ≡ refusal_as files is.Usage (usage_line why) false
usage_reported words files bytes report why none reports =
    let P : Result Order UsageWhy → Type 0 = λ r. ReportsWords r words bytes files report in
    subst P (once_words reports.0 (Err why) words reports.1 none) reports.2

-- a run that did what is reported
module _ (words : List (List ℕ)) (files : Files) (bytes : List ℕ) (report : Report) (reports : Reports words bytes files report) where
  done_usage : (status : Status) → status ≡ report.status → (status ≡ is.Usage) ↔ ((why : UsageWhy) × Ordered words (Err why))
  done_usage status reported = (
    λ same. words_status words files reports.0 bytes report reports.1 reports.2 (sym reported ∙ same),
    λ none. reported ∙ ap (λ r. r.status) (usage_reported words files bytes report none.0 none.1 reports),
  )

  -- words that are no order are refused with no text
  no_text : ((why : UsageWhy) × Ordered words (Err why)) → report.text ≡ []
  no_text none = ap (λ r. r.text) (usage_reported words files bytes report none.0 none.1 reports)

  not_short : ((why : UsageWhy) × Ordered words (Err why)) → report.short ≡ false
  not_short none = ap (λ r. r.short) (usage_reported words files bytes report none.0 none.1 reports)

other : {A B : Type 0} → (A → ⊥) → (B → ⊥) → A ↔ B
other not_a not_b = (λ a. absurd (not_a a), λ b. absurd (not_b b))

pub usage_exactly : UsageExactly
usage_exactly words is.Done old new run = done_usage words run.given.files _ run.ends.0 run.ends.1 is.Done run.ends.2.reported
usage_exactly words is.Usage old new run = done_usage words run.given.files _ run.ends.0 run.ends.1 is.Usage run.ends.2.reported
usage_exactly words is.Text old new run = done_usage words run.given.files _ run.ends.0 run.ends.1 is.Text run.ends.2.reported
usage_exactly words is.Unsound old new run = done_usage words run.given.files _ run.ends.0 run.ends.1 is.Unsound run.ends.2.reported
usage_exactly words is.File old new run = done_usage words run.given.files _ run.ends.0 run.ends.1 is.File run.ends.2.reported
usage_exactly words is.Budget old new run = done_usage words run.given.files _ run.ends.0 run.ends.1 is.Budget run.ends.2.reported
usage_exactly words is.Wide old new run = done_usage words run.given.files _ run.ends.0 run.ends.1 is.Wide run.ends.2.reported
usage_exactly words is.Ended old new run = done_usage words run.given.files _ run.ends.0 run.ends.1 is.Ended run.ends.2.reported
usage_exactly words is.TooMany old new run = done_usage words run.given.files _ run.ends.0 run.ends.1 is.TooMany run.ends.2.reported
usage_exactly words is.ReadFault old new run =
    other (λ same. absurd (cc)) (λ none. let short = run.ends.2.short in let not = not_short words run.given.files _ run.ends.0 run.ends.1 none in absurd (cc))
usage_exactly words is.WriteFault old new run =
    other (λ same. absurd (cc)) (λ none. let proper = run.ends.2.written.proper in absurd (omega (arith, proper, ap length (no_text words run.given.files _ run.ends.0 run.ends.1 none))))
usage_exactly words is.ShelfFault old new run =
    other (λ same. absurd (cc)) (λ none. let miss = run.ends.1 in let both = once_words (Ok miss.0) (Err none.0) words miss.1 none.1 in absurd (cc))
usage_exactly words is.Memory old new run =
    other (λ same. absurd (cc)) (λ none. let lack = run.ends.0 in let both = once_words (Ok lack.0) (Err none.0) words lack.1 none.1 in absurd (cc))

-- words that are an order have another status
pub ordered_not_usage : (words : List (List ℕ)) (order : Order) (status : Status) (old new : Seen) → Ordered words (Ok order) → RunEnds words status old new → status ≢ is.Usage
ordered_not_usage words order status old new ordered run usage =
    let none = (usage_exactly words status old new run).0 usage in
    let both = once_words (Ok order) (Err none.0) words ordered none.1 in absurd (cc)

-- the text of a problem that memory was wanting for is the one that the source told
same_problem : (problem : Problem) (rest : Lines) (input taken more : List ℕ) (Holds : Problem → Type 0) → TextAt input (whole problem rest) → input ≡ taken ++ more
    → IsBehindText Holds taken → SoundWithKings problem.position × Holds problem
same_problem problem rest input taken more Holds at is lack =
    let before = text_more problems lack.problem ended lack.front lack.text in
    let behind = before.behind ++ (lack.pending ++ more) in
    let Q : List ℕ → Type 0 = λ b. TextAt b (whole lack.problem (lines_of behind)) in
    let bytes : lack.front ++ (lack.pending ++ more) ≡ input = sym (append_assoc lack.front lack.pending more) ∙ ap (λ b. b ++ more) (sym lack.bytes) ∙ sym is in
    let told : TextAt input (whole lack.problem (lines_of behind)) = subst Q bytes (before.reads (lack.pending ++ more)) in
    let texts = once_text problems Header 1 (lines_of input) (whole lack.problem (lines_of behind)) (whole problem rest) told at in
    let same : lack.problem ≡ problem = cc in
    let IsSound : Problem → Type 0 = λ p. SoundWithKings p.position in
    (subst IsSound same lack.sound, subst Holds same lack.holds)

pub memory_last : MemoryLast
memory_last words old new run =
    let lack = run.ends.0 in
    record {
      taken = run.given.taken;
      consumed = run.given.consumed;
      lacks = lack;
      of_text = λ order bytes problem rest ordered of told at.
          let same : lack.0 ≡ order = let e = once_words (Ok lack.0) (Ok order) words lack.1 ordered in cc in
          let Lacks : Order → Type 0 = λ o. OrderMayLack o run.given.taken in
          let right : OrderMayLack order run.given.taken = subst Lacks same lack.2 in
          same_problem problem rest bytes run.given.taken run.given.rest (TakesMemory order) at
          (given_bytes old.left new.left bytes run.given.taken run.given.rest told run.given.consumed run.given.left)
          ((in_order order).behind run.given.taken of right);
    }

pub no_shelf_fault : NoShelfFault
no_shelf_fault words order status old new ordered none run same =
    let P : Status → Type 0 = λ s. RunEnds words s old new in
    let ended : RunEnds words is.ShelfFault old new = subst P same run in
    let miss = ended.ends.1 in
    let Q : Result Order UsageWhy → Type 0 = λ r. IfOk r UsesNoShelf in
    let unused : UsesNoShelf miss.0 = subst Q (once_words (Ok order) (Ok miss.0) words ordered miss.1) none in
    (in_order miss.0).no_shelf words ended.given.taken ended.given.files ended.ends.0 unused miss.2

pub faults_are_counted : FaultsAreCounted
faults_are_counted = record {
  read = λ words old new run. run.ends.2.failed;
  write = λ words old new run. run.ends.2.failed;
  shelf = λ words old new run. run.ends.2.failed;
}
