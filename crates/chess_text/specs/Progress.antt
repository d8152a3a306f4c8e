-- The progress of a parser of texts.
use Rattle.std.specs.Prelude.{◌≡◌, ℕ, ◌+◌, ◌≤◌, List, length, Option, Some, None, Result, Ok, Err}
use Rattle.game_rules.specs.Game.{Position}
use Rattle.game_rules.specs.declared.men.Side.{Side}
use Rattle.chess_text.specs.Draft.{Draft}
use Rattle.chess_text.specs.Grammar.{positions}
use Rattle.chess_text.specs.PositionText.{Feeds, draft_of, drafted, more, complete, wrong}
use Rattle.chess_text.specs.declared.draft.TheConstants.{MOST_READ}
use Rattle.chess_text.specs.declared.grammar.Grammar.{Grammar}
use Rattle.chess_text.specs.declared.man_line.TextWhy.{TextWhy}
use Rattle.chess_text.specs.declared.positions.Fed.{Fed}
use Rattle.chess_text.specs.declared.positions.Fed.TheVariants as fed
use Rattle.chess_text.specs.declared.reader.End.{End}
use Rattle.chess_text.specs.declared.reader.End.TheVariants as end
use Rattle.chess_text.specs.declared.reader.ReaderState.{ReaderState}
use Rattle.chess_text.specs.declared.reader.ReaderState.TheVariants as stage
use Rattle.chess_text.specs.declared.reader.LineOutcome.{LineOutcome}
use Rattle.chess_text.specs.declared.reader.LineOutcome.TheVariants as step
use Rattle.chess_text.specs.declared.reader.TextError.{TextError}

-- the kind of the text, its stage, and how it ended
pub record Progress : Type 0 where
  pub grammar : Grammar
  pub stage : ReaderState
  pub end : Option End

-- nothing has been read
abbrev pub begun : Grammar → Progress
begun g = record { grammar = g; stage = stage.Header; end = None }

-- a text at this stage has at most the number of men that its kind allows
abbrev pub HasRoom : Grammar → ReaderState → Type 0
HasRoom g (stage.Men d) = length d.men ≤ g.most_men
HasRoom g s = Unit {0}

-- a text at this stage has enough men if it is complete
abbrev pub HasEnough : ReaderState → Type 0
HasEnough (stage.Men d) = 2 ≤ length d.men
HasEnough s = ⊥

-- the invariant of a parser
pub record IsProgress (r : Progress) : Type 0 where
  pub few : r.grammar.most_men ≤ MOST_READ
  pub room : HasRoom r.grammar r.stage
  pub enough : r.end ≡ Some end.Whole → HasEnough r.stage

-- the text is complete and has these contents
pub record IsWhole (r : Progress) (d : Draft) : Type 0 where
  pub whole : r.end ≡ Some end.Whole
  pub says : r.stage ≡ stage.Men d
  pub low : 2 ≤ length d.men
  pub high : length d.men ≤ r.grammar.most_men

-- the number of the next line, counted from 1
abbrev pub line_due : ReaderState → ℕ
line_due stage.Header = 1
line_due stage.Turn = 2
line_due (stage.Men d) = length d.men + 3

-- the result of a line at a stage: the text continues at the next stage, or is complete, or the line is refused
abbrev pub IsFed : Grammar → ReaderState → List ℕ → Result LineOutcome TextWhy → ReaderState → Type 0
IsFed g s line (Ok step.More) next = Feeds g s line (more next)
IsFed g s line (Ok step.Whole) (stage.Men d) = Feeds g s line (complete d)
IsFed g s line (Ok step.Whole) next = ⊥
IsFed g s line (Err why) next = Feeds g s line (wrong why)

-- the end of a text after this result, if it ended
abbrev pub ended : LineOutcome → Option End
ended step.More = None
ended step.Whole = Some end.Whole

-- the result that a parser at a stage returns for a line, and its state afterwards
abbrev pub Reads : Grammar → ReaderState → List ℕ → Result LineOutcome TextError → Progress → Type 0
Reads g s line (Ok to) r = IsFed g s line (Ok to) r.stage × (r.end ≡ ended to)
Reads g s line (Err error) r =
    IsFed g s line (Err error.why) r.stage × (error.line ≡ line_due s) × (r.end ≡ Some (end.Refused error))

-- the result that a parser returns after the text ended
abbrev pub answer_of : End → Result LineOutcome TextError
answer_of end.Whole = Ok step.Whole
answer_of (end.Refused error) = Err error

-- the position and the winner of a complete text
abbrev pub whole_of : Fed → Option (Position × Side)
whole_of fed.More = None
whole_of (fed.Whole p winner) = Some (p, winner)

-- the progress of a position text
abbrev pub fed_at : Option End → ReaderState → Fed
fed_at (Some end.Whole) (stage.Men d) = fed.Whole (drafted d) d.winner
fed_at how s = fed.More

-- the result that a parser of position texts at a stage returns for a line, and its state afterwards
abbrev pub ReadsLine : ReaderState → List ℕ → Result Fed TextError → Progress → Type 0
ReadsLine s line (Ok fed.More) r = Feeds positions s line (more r.stage) × (r.end ≡ None)
ReadsLine s line (Ok (fed.Whole p winner)) r =
    Feeds positions s line (complete (draft_of p winner)) × (r.stage ≡ stage.Men (draft_of p winner)) × (r.end ≡ Some end.Whole)
ReadsLine s line (Err error) r =
    Feeds positions s line (wrong error.why) × (error.line ≡ line_due s) × (r.end ≡ Some (end.Refused error))

-- the result that a parser of position texts returns after the text ended at a stage
abbrev pub again_at : ReaderState → End → Result Fed TextError
again_at s end.Whole = Ok (fed_at (Some end.Whole) s)
again_at s (end.Refused error) = Err error
