-- The text at the front of an input, line by line.
use Rattle.std.specs.Prelude.{◌≡◌, ℕ, ◌+◌, ◌++◌, Bool, true, false, List, codes}
use Rattle.std.specs.Fmt.{decimal}
use Rattle.desk_base.specs.Lines.{Lines, full, ended, cut, long, lines_of}
use Rattle.chess_text.specs.Draft.{Draft}
use Rattle.chess_text.specs.Grammar.{positions}
use Rattle.chess_text.specs.PositionText.{Feeds, Turnout, drafted}
use Rattle.chess_text.specs.PositionText as turnouts
use Rattle.chess_text.specs.declared.man_line.TextWhy.TheVariants as grammar
use Rattle.chess_text.specs.declared.grammar.Grammar as kinds
use Rattle.chess_text.specs.declared.reader.ReaderState.{ReaderState}
use Rattle.chess_text.specs.declared.reader.ReaderState.TheVariants.{Header}
use Rattle.desk_text.specs.declared.problem.Problem.{Problem}
use Rattle.desk_text.specs.declared.problem.WholeText.{WholeText}
use Rattle.desk_text.specs.declared.text.LineWhy.{LineWhy}
use Rattle.desk_text.specs.declared.text.LineWhy.TheVariants.{Grammar, Long, Cut, Missing}

-- The front of an input: a text with these contents and the lines after it, or the first line that is refused.
pub data Text (A : Type 0) : Type 0 where
  whole : A → Lines → Text A
  refused : ℕ → LineWhy → Text A

-- How texts of a kind are read: their grammar, and the value of contents with a number of lines.
pub record Reading (A : Type 0) : Type 0 where
  pub grammar : kinds.Grammar
  pub says : Draft → ℕ → A

-- the problem of a text with this number of lines
abbrev pub problem_of : Draft → ℕ → Problem
problem_of d lines = record { position = drafted d; winner = d.winner; lines = lines }

-- the contents of a text with this number of lines
abbrev pub text_of : Draft → ℕ → WholeText
text_of d lines = record { draft = d; lines = lines }

-- position texts say problems
abbrev pub problems : Reading Problem
problems = record { grammar = positions; says = problem_of }

-- the contents of texts of a kind
abbrev pub texts_of : kinds.Grammar → Reading WholeText
texts_of g = record { grammar = g; says = text_of }

-- the text, after a line of this number with this result
abbrev pub AfterLine : {A : Type 0} → Reading A → Turnout → ℕ → Lines → Text A → (ReaderState → Type 0) → Type 0
AfterLine r (turnouts.more next) number rest text go_on = go_on next
AfterLine r (turnouts.complete d) number rest text go_on = text ≡ whole (r.says d number) rest
AfterLine r (turnouts.wrong why) number rest text go_on = text ≡ refused number (Grammar why)

-- the text in the lines from a stage on, the first of which has this number
abbrev pub ReadsLines : {A : Type 0} → Reading A → ReaderState → ℕ → Lines → Text A → Type 0
ReadsLines r stage number (full line rest) text =
    (turnout : Turnout) × Feeds r.grammar stage line turnout
    × AfterLine r turnout number rest text (λ next. ReadsLines r next (number + 1) rest text)
ReadsLines r stage number ended text = text ≡ refused number Missing
ReadsLines r stage number (cut front) text = text ≡ refused number Cut
ReadsLines r stage number long text = text ≡ refused number Long

-- the text in these lines, from the first line on
abbrev pub IsTextOf : {A : Type 0} → Reading A → Lines → Text A → Type 0
IsTextOf r lines text = ReadsLines r Header 1 lines text

-- the text at the front of an input
abbrev pub TextAt : List ℕ → Text Problem → Type 0
TextAt bytes text = IsTextOf problems (lines_of bytes) text

-- the line is refused because the input ended
abbrev pub is_end : LineWhy → Bool
is_end (Grammar why) = false
is_end Long = false
is_end Cut = true
is_end Missing = true

-- the last word of the fault line
abbrev pub why_word : LineWhy → List ℕ
why_word (Grammar grammar.Header) = codes "header"
why_word (Grammar grammar.Turn) = codes "turn"
why_word (Grammar grammar.ManLine) = codes "man"
why_word (Grammar grammar.Number) = codes "number"
why_word (Grammar grammar.TooFew) = codes "few"
why_word (Grammar grammar.TooMany) = codes "many"
why_word Long = codes "long"
why_word Cut = codes "cut"
why_word Missing = codes "missing"

-- the fault line of a refused line
abbrev pub refusal_line : ℕ → LineWhy → List ℕ
refusal_line number why = codes "text line " ++ decimal number ++ codes " " ++ why_word why ++ codes "\n"
