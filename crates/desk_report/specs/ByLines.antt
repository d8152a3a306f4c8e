-- How a command that reads lines ends.
use Rattle.std.specs.Prelude.{◌≡◌, ℕ, List, ◌++◌, Option, IfSome, IsTrue}
use Rattle.std.specs.Io.KnownBytes.{Consumes}
use Rattle.chess_text.specs.PositionText.{text_of_lines}
use Rattle.desk_base.specs.Lines.{Lines, lines_of}
use Rattle.desk_text.specs.Taken.{TakesLines}
use Rattle.desk_report.specs.Outcome.{RunEndsAs, Report, Seen, reported_on}
use Rattle.desk_report.specs.declared.status.Status.{Status}

-- a line is due after these lines: their report ends because they end
abbrev pub IsDueBy : (Lines → Report → Type 0) → (before : List (List ℕ)) → Type 0
IsDueBy reports before = (report : Report) × reports (lines_of (text_of_lines before)) report × IsTrue report.short

-- How a command that reads lines ends. The bytes `held` had been taken of its input before and not read; at the end it
-- holds `pending`. The parameters say what is reported of the lines, after which bytes memory may run out, and after
-- which bytes the shelf may fail.
pub record EndsByLines (reports : Lines → Report → Type 0) (may_lack : (bytes : List ℕ) → Type 0)
    (may_miss : (bytes : List ℕ) → (keeping : Option (List ℕ)) → Type 0) (status : Status) (held pending : List ℕ)
    (old new : Seen) : Type 0 where
  pub bytes : List ℕ
  pub rest : List ℕ
  pub taken : Consumes old.left new.left bytes
  pub left : IfSome new.left (λ told. told ≡ rest)
  pub takes : TakesLines (IsDueBy reports) (held ++ bytes) pending
  pub ends : RunEndsAs status (reports (lines_of (reported_on status (held ++ bytes) rest))) (may_lack bytes)
      (may_miss bytes) old new
