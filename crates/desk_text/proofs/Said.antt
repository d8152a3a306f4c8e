-- What a text says is made of the text as it stands. Crates above cite these lemmas.
use Rattle.std.proofs.Common.{ℕ, ◌+◌, List, Option, Result, Ok, Err, ap, take}
use Rattle.desk_base.specs.Lines.{Lines, full, ended, cut, long}
use Rattle.chess_text.specs.PositionText.{Turnout, text_of_lines}
use Rattle.chess_text.specs.PositionText as turnouts
use Rattle.chess_text.specs.declared.reader.ReaderState.{ReaderState}
use Rattle.chess_text.specs.declared.reader.ReaderState.TheVariants.{Header}
use Rattle.desk_text.specs.Taken.{TakesLines}
use Rattle.desk_text.specs.Text.{AfterLine, Reading, ReadsLines, Text, refused, texts_of, whole}
use Rattle.desk_text.specs.TextRead.{IsMissingOf, ReadsText, TextReadOf}
use Rattle.desk_text.specs.declared.problem.WholeText.{WholeText}
use Rattle.desk_text.specs.declared.text.TextEnd.{TextEnd}
use Rattle.desk_text.specs.declared.text.TextEnd.TheVariants.{Fault, Refused}

module _ {A : Type 0} (r : Reading A) where
  abbrev plain : Reading WholeText
  plain = texts_of r.grammar

  -- what is made of a text, and of an answer
  abbrev pub says_of : WholeText → A
  says_of text = r.says text.draft text.lines

  abbrev said : Text WholeText → Text A
  said (whole text rest) = whole (says_of text) rest
  said (refused number why) = refused number why

  abbrev pub said_so : Result WholeText TextEnd → Result A TextEnd
  said_so (Ok text) = Ok (says_of text)
  said_so (Err end) = Err end

  after_said : (turnout : Turnout) (number : ℕ) (rest : Lines) (text : Text WholeText) (F G : ReaderState → Type 0) → ((next : ReaderState) → F next → G next)
      → AfterLine plain turnout number rest text F → AfterLine r turnout number rest (said text) G
  after_said (turnouts.more next) number rest text F G go h = go next h
  after_said (turnouts.complete d) number rest text F G go h = ap said h
  after_said (turnouts.wrong why) number rest text F G go h = ap said h

  lines_said : (stage : ReaderState) (number : ℕ) (lines : Lines) (text : Text WholeText) → ReadsLines plain stage number lines text → ReadsLines r stage number lines (said text)
  lines_said stage number (full line rest) text (turnout, feeds, h) = (
    turnout,
    feeds,
    after_said turnout number rest text (λ next. ReadsLines plain next (number + 1) rest text) (λ next. ReadsLines r next (number + 1) rest (said text))
        (λ next x. lines_said next (number + 1) rest text x) h,
  )
  lines_said stage number ended text h = ap said h
  lines_said stage number (cut front) text h = ap said h
  lines_said stage number long text h = ap said h

  missing_said : (before : List (List ℕ)) → IsMissingOf plain before → IsMissingOf r before
  missing_said before h = lines_said Header 1 _ _ h

  reads_said : (answer : Result WholeText TextEnd) (lines pending rest : List ℕ) → ReadsText plain answer lines pending rest → ReadsText r (said_so answer) lines pending rest
  reads_said (Ok text) lines pending rest h = λ more. lines_said Header 1 _ _ (h more)
  reads_said (Err Fault) lines pending rest h = record { number = h.number; why = h.why; text = lines_said Header 1 _ _ h.text; short = h.short }
  reads_said (Err (Refused number why)) lines pending rest h = lines_said Header 1 _ _ h

  pub read_said : (answer : Result WholeText TextEnd) (pending : List ℕ) (before after : Option (List ℕ)) → TextReadOf plain answer pending before after
      → TextReadOf r (said_so answer) pending before after
  read_said answer pending before after t =
      let takes : TakesLines (IsMissingOf r) t.bytes pending = record {
        lines = t.takes.lines;
        are_lines = t.takes.are_lines;
        due = λ k below. missing_said (take k t.takes.lines) (t.takes.due k below);
        bytes = t.takes.bytes;
        few = t.takes.few;
      } in
      record { bytes = t.bytes; rest = t.rest; taken = t.taken; left = t.left; takes = takes; reads = reads_said answer (text_of_lines t.takes.lines) pending t.rest t.reads }
