-- The bytes taken of an input.
use Rattle.std.specs.Prelude.{◌≡◌, ℕ, ◌<◌, ◌≤◌, List, ◌++◌, length, take}
use Rattle.std.specs.List.{All}
use Rattle.desk_base.specs.Lines.{IsLine}
use Rattle.chess_text.specs.PositionText.{text_of_lines}

-- The bytes taken are the lines that were read and at most 256 bytes after them, `pending`. Each line was due after the
-- lines before it.
pub record TakesLines (IsDue : (before : List (List ℕ)) → Type 0) (taken pending : List ℕ) : Type 0 where
  pub lines : List (List ℕ)
  pub are_lines : All IsLine lines
  pub due : (k : ℕ) → k < length lines → IsDue (take k lines)
  pub bytes : taken ≡ text_of_lines lines ++ pending
  pub few : length pending ≤ 256
