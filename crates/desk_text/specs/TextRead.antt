-- The bytes read of a text.
use Rattle.std.specs.Prelude.{◌≡◌, ℕ, ◌+◌, List, ◌++◌, length, Option, IfSome, Result, Ok, Err, IsTrue}
use Rattle.std.specs.Io.KnownBytes.{Consumes}
use Rattle.chess_text.specs.PositionText.{text_of_lines}
use Rattle.desk_base.specs.Lines.{lines_of}
use Rattle.desk_text.specs.Taken.{TakesLines}
use Rattle.desk_text.specs.Text.{IsTextOf, Reading, is_end, problems, refused, whole}
use Rattle.desk_text.specs.declared.problem.Problem.{Problem}
use Rattle.desk_text.specs.declared.text.LineWhy.{LineWhy}
use Rattle.desk_text.specs.declared.text.LineWhy.TheVariants.{Missing}
use Rattle.desk_text.specs.declared.text.TextEnd.{TextEnd}
use Rattle.desk_text.specs.declared.text.TextEnd.TheVariants.{Fault, Refused}

-- these bytes are not a text because they end too early
pub record IsShortOf {A : Type 0} (r : Reading A) (bytes : List ℕ) : Type 0 where
  pub number : ℕ
  pub why : LineWhy
  pub text : IsTextOf r (lines_of bytes) (refused number why)
  pub short : IsTrue (is_end why)

-- a text that begins with these lines needs another line
abbrev pub IsMissingOf : {A : Type 0} → Reading A → (before : List (List ℕ)) → Type 0
IsMissingOf r before = IsTextOf r (lines_of (text_of_lines before)) (refused (length before + 1) Missing)

-- The result is right if these lines of an input were read, `pending` was taken after them, and `rest` follows.
abbrev pub ReadsText : {A : Type 0} → Reading A → Result A TextEnd → (lines pending rest : List ℕ) → Type 0
ReadsText r (Ok said) lines pending rest =
    (more : List ℕ) → IsTextOf r (lines_of (lines ++ more)) (whole said (lines_of more))
ReadsText r (Err Fault) lines pending rest = IsShortOf r (lines ++ pending)
ReadsText r (Err (Refused number why)) lines pending rest =
    IsTextOf r (lines_of ((lines ++ pending) ++ rest)) (refused number why)

-- The result is right for a source that was `before` and is `after`.
pub record TextReadOf {A : Type 0} (r : Reading A) (answer : Result A TextEnd) (pending : List ℕ)
    (before after : Option (List ℕ)) : Type 0 where
  pub bytes : List ℕ
  pub rest : List ℕ
  pub taken : Consumes before after bytes
  pub left : IfSome after (λ told. told ≡ rest)
  pub takes : TakesLines (IsMissingOf r) bytes pending
  pub reads : ReadsText r answer (text_of_lines takes.lines) pending rest

-- the same for position texts
abbrev pub IsShort : (bytes : List ℕ) → Type 0
IsShort bytes = IsShortOf problems bytes

abbrev pub IsMissing : (before : List (List ℕ)) → Type 0
IsMissing before = IsMissingOf problems before

abbrev pub TextRead : Result Problem TextEnd → (pending : List ℕ) → (before after : Option (List ℕ)) → Type 0
TextRead answer pending before after = TextReadOf problems answer pending before after
