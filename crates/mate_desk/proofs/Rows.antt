-- Each row of the orders is in order: what it reports is one report, and has not the status of words that are no order,
-- and where it uses no file no shelf fails.
use Rattle.std.proofs.Common.{◌≡◌, ℕ, List, false, Option, Some, None, Result, Ok, Err, inl, refl, sym, ◌∙◌, subst}
use Rattle.std.specs.Prelude.{slice_get}
use Rattle.desk_base.specs.Files.{Files}
use Rattle.desk_base.specs.Lines.{Lines, lines_of}
use Rattle.chess_game.specs.Unsoundness.{IsFirstUnsoundness}
use Rattle.chess_game.specs.declared.unsoundness.Unsound.{Unsound}
use Rattle.desk_formula.proofs.Once.{arith_row}
use Rattle.desk_crowd.proofs.Rows.{crowd_row}
use Rattle.desk_describe.proofs.Rows.{describe_row}
use Rattle.desk_files.proofs.Rows.{check_row, keep_row, migrate_row}
use Rattle.desk_games.proofs.Rows.{defend_row, play_row, resume_row}
use Rattle.desk_report.specs.FaultLines.{unsound_line}
use Rattle.desk_report.specs.Outcome.{Report, refusal_as}
use Rattle.desk_report.specs.declared.status.Status.TheVariants as is
use Rattle.desk_report.proofs.One.{IsNotUsage, IsOne}
use Rattle.desk_report.proofs.TextRows.{text_row as one_text}
use Rattle.desk_solve.proofs.Drilled.{drill_row}
use Rattle.desk_solve.proofs.Listing.{first_row}
use Rattle.desk_solve.proofs.Rows.{decide_row, least_row}
use Rattle.desk_text.specs.Text.{TextAt, is_end, problems, refusal_line, refused, whole}
use Rattle.desk_text.specs.declared.problem.Problem.{Problem}
use Rattle.desk_text.specs.declared.text.LineWhy.{LineWhy}
use Rattle.desk_args.specs.Order.{as_order}
use Rattle.desk_args.specs.declared.order.Order.{Order}
use Rattle.desk_args.specs.declared.order.Order.TheVariants.{Decide, Least, First, Describe, Play, Defend, Keep, Crowd, Check, Resume, Migrate, Show, Drill, Arith}
use Rattle.desk_args.specs.declared.order.TextOrder.{TextOrder}
use Rattle.desk_args.specs.declared.order.TextOrder.TheVariants as text_orders
use Rattle.desk_args.specs.declared.order.UsageWhy.{UsageWhy}
use Rattle.desk_args.proofs.OneOrder.{once_words}
use Rattle.mate_desk.specs.Command.{Command, IsBehindText, OfName, OfText, of_file, of_files, of_lines, of_text, of_text_to_keep, of_words}
use Rattle.mate_desk.specs.Laws.{OneReport}
use Rattle.mate_desk.specs.Report.{IsOfText, ReadsNoText, ReportsOrder, ReportsWords, command_of}
use Rattle.mate_desk.proofs.Shown.{show_row}

-- what is reported of a name is one report, where it is so of each
name_row : (name : Option (List ℕ)) (says : List ℕ → Report → Type 0) → ((n : List ℕ) → IsOne (says n)) → IsOne (OfName name says)
name_row (Some n) says one = one n
name_row None says one = record { not_usage = λ report none. absurd none; once = λ r s none. absurd none }

-- a text that is refused is reported so, and one whose position is not sound
pub record RefusesText (reports : List ℕ → Files → Report → Type 0) : Type 0 where
  pub refused : (bytes : List ℕ) (files : Files) (number : ℕ) (why : LineWhy) → TextAt bytes (refused number why)
      → reports bytes files (refusal_as files is.Text (refusal_line number why) (is_end why))
  pub unsound : (bytes : List ℕ) (files : Files) (problem : Problem) (rest : Lines) (why : Unsound) → TextAt bytes (whole problem rest)
      → IsFirstUnsoundness problem.position why → reports bytes files (refusal_as files is.Unsound (unsound_line why) false)

-- so it is where what is reported of texts is reported
pub refuses_as : (says : Problem → Lines → Files → Report → Type 0) (reports : List ℕ → Files → Report → Type 0)
    → ((bytes : List ℕ) (files : Files) (report : Report) → OfText (λ problem rest. says problem rest files) files bytes report → reports bytes files report)
    → RefusesText reports
refuses_as says reports more = record {
  refused = λ bytes files number why at. more bytes files _ (refused number why, at, refl);
  unsound = λ bytes files problem rest why at fault. more bytes files _ (whole problem rest, at, inl (why, fault, refl));
}

pub record IsInOrder (c : Command) : Type 0 where
  pub one : (words : List (List ℕ)) (bytes : List ℕ) (files : Files) → IsOne (c.reports words bytes files)
  pub no_shelf : (words : List (List ℕ)) (taken : List ℕ) (files : Files) (keeping : Option (List ℕ)) → c.no_shelf → c.may_miss words taken files keeping → ⊥
  pub behind : (taken : List ℕ) → c.text → c.may_lack taken → IsBehindText c.takes taken
  pub refuses : c.text → (words : List (List ℕ)) → RefusesText (c.reports words)
  pub reads : c.text → c.no_text → ⊥

-- by what a row is of
text_row : {says : Problem → Lines → Files → Report → Type 0} {takes : Problem → Type 0}
    → ((problem : Problem) (rest : Lines) (files : Files) → IsOne (says problem rest files)) → IsInOrder (of_text says takes)
text_row {says} {takes} one = record {
  one = λ words bytes files. one_text problems (λ problem rest. says problem rest files) files (λ problem rest. one problem rest files) (lines_of bytes);
  no_shelf = λ words taken files keeping none misses. misses;
  behind = λ taken of lack. lack;
  refuses = λ of words. refuses_as says ((of_text says takes).reports words) (λ bytes files report right. right);
  reads = λ of none. none;
}

text_to_keep_row : {says : Problem → List ℕ → Files → Report → Type 0} {takes has_file : Problem → Type 0}
    → ((problem : Problem) (name : List ℕ) (files : Files) → IsOne (says problem name files)) → IsInOrder (of_text_to_keep says takes has_file)
text_to_keep_row {says} {takes} {has_file} one = record {
  one = λ words bytes files.
      one_text problems (λ problem rest. OfName (slice_get words 2) (λ n. says problem n files)) files
      (λ problem rest. name_row (slice_get words 2) (λ n. says problem n files) (λ n. one problem n files)) (lines_of bytes);
  no_shelf = λ words taken files keeping none misses. absurd none;
  behind = λ taken of lack. lack;
  refuses = λ of words.
      refuses_as (λ problem rest files. OfName (slice_get words 2) (λ n. says problem n files)) ((of_text_to_keep says takes has_file).reports words)
      (λ bytes files report right. right);
  reads = λ of none. none;
}

file_row : {says : Lines → List ℕ → Files → Report → Type 0} {no_text : Type 0}
    → ((lines : Lines) (name : List ℕ) (files : Files) → IsOne (says lines name files)) → IsInOrder (of_file says no_text)
file_row {says} one = record {
  one = λ words bytes files. name_row (slice_get words 1) (λ n. says (lines_of bytes) n files) (λ n. one (lines_of bytes) n files);
  no_shelf = λ words taken files keeping none misses. absurd none;
  behind = λ taken of lack. absurd of;
  refuses = λ of words. absurd of;
  reads = λ of none. of;
}

files_row : {says : List ℕ → List ℕ → Files → Report → Type 0} {misses : List ℕ → List ℕ → Files → Option (List ℕ) → Type 0}
    → ((from to : List ℕ) (files : Files) → IsOne (says from to files)) → IsInOrder (of_files says misses)
files_row {says} one = record {
  one = λ words bytes files.
      name_row (slice_get words 1) (λ from. OfName (slice_get words 2) (λ to. says from to files))
      (λ from. name_row (slice_get words 2) (λ to. says from to files) (λ to. one from to files));
  no_shelf = λ words taken files keeping none misses. absurd none;
  behind = λ taken of lack. absurd of;
  refuses = λ of words. absurd of;
  reads = λ of none. of;
}

lines_row : {says : Lines → Files → Report → Type 0} {may_lack : List ℕ → Type 0}
    → ((lines : Lines) (files : Files) → IsOne (says lines files)) → IsInOrder (of_lines says may_lack)
lines_row one = record {
  one = λ words bytes files. one (lines_of bytes) files;
  no_shelf = λ words taken files keeping none misses. misses;
  behind = λ taken of lack. absurd of;
  refuses = λ of words. absurd of;
  reads = λ of none. of;
}

words_row : {says : Files → Report → Type 0} {some : Type 0} {takes : Problem → Type 0} → ((files : Files) → IsOne (says files)) → IsInOrder (of_words says some takes)
words_row one = record {
  one = λ words bytes files. one files;
  no_shelf = λ words taken files keeping none misses. misses;
  behind = λ taken of lack. absurd of;
  refuses = λ of words. absurd of;
  reads = λ of none. of;
}

-- each row
pub in_order : (order : Order) → IsInOrder (command_of order)
in_order (Decide n budget) = text_row (λ problem rest files. decide_row n budget problem files)
in_order (Least limit budget) = text_row (λ problem rest files. least_row limit budget problem files)
in_order (First n budget) = text_row (λ problem rest files. first_row n budget problem files)
in_order (Describe n budget) = text_row (λ problem rest files. describe_row n budget problem files)
in_order (Play n budget) = text_row (λ problem rest files. play_row n budget problem rest files)
in_order (Defend n budget) = text_row (λ problem rest files. defend_row n budget problem rest files)
in_order (Keep n budget) = text_to_keep_row (λ problem name files. keep_row n budget problem name files)
in_order (Crowd n budget) = lines_row (λ lines files. crowd_row n budget lines files)
in_order (Check budget) = file_row (λ lines name files. check_row budget name files)
in_order (Resume budget) = file_row (λ lines name files. resume_row budget lines name files)
in_order Migrate = files_row (λ from to files. migrate_row from to files)
in_order Show = text_row (λ problem rest files. show_row problem files)
in_order (Drill seed count) = words_row (λ files. drill_row seed count files)
in_order (Arith budget) = lines_row (λ lines files. arith_row budget lines files)

pub order_status : (order : Order) (words : List (List ℕ)) (bytes : List ℕ) (files : Files) (report : Report) → ReportsOrder order words bytes files report → IsNotUsage report
order_status order words bytes files report right = ((in_order order).one words bytes files).not_usage report right

-- an order of a text refuses texts, and reads one
pub record IsTextOrder (order : Order) (words : List (List ℕ)) : Type 0 where
  pub refuses : RefusesText (ReportsOrder order words)
  pub reads : ReadsNoText order → ⊥

is_text : (o : TextOrder) → IsOfText (as_order o)
is_text (text_orders.Decide n budget) = tt
is_text (text_orders.Least limit budget) = tt
is_text (text_orders.First n budget) = tt
is_text (text_orders.Describe n budget) = tt
is_text (text_orders.Play n budget) = tt
is_text (text_orders.Defend n budget) = tt
is_text (text_orders.Keep n budget name) = tt
is_text text_orders.Show = tt

pub text_order : (o : TextOrder) (words : List (List ℕ)) → IsTextOrder (as_order o) words
text_order o words =
    let row = in_order (as_order o) in
    record { refuses = row.refuses (is_text o) words; reads = row.reads (is_text o) }

-- so words have one report
once_answer : (answer : Result Order UsageWhy) (words : List (List ℕ)) (bytes : List ℕ) (files : Files) (one other : Report)
    → ReportsWords answer words bytes files one → ReportsWords answer words bytes files other → one ≡ other
once_answer (Err why) words bytes files one other a b = a ∙ sym b
once_answer (Ok order) words bytes files one other a b = ((in_order order).one words bytes files).once one other a b

pub one_report : OneReport
one_report words bytes files one other a b =
    let P : Result Order UsageWhy → Type 0 = λ r. ReportsWords r words bytes files other in
    once_answer a.0 words bytes files one other a.2 (subst P (sym (once_words a.0 b.0 words a.1 b.1)) b.2)
