-- What is reported of a text is one report, where it is so of each problem. Crates above cite these lemmas.
use Rattle.std.proofs.Common.{false, ap}
use Rattle.desk_base.specs.Files.{Files}
use Rattle.desk_base.specs.Lines.{Lines}
use Rattle.game_rules.specs.Game.{Position, SoundWithKings}
use Rattle.chess_game.specs.Unsoundness.{IsFirstUnsoundness}
use Rattle.chess_game.proofs.UnsoundnessLemmas.{unsound_refuted}
use Rattle.chess_text.specs.declared.reader.ReaderState.TheVariants.{Header}
use Rattle.desk_report.specs.FaultLines.{unsound_line}
use Rattle.desk_report.specs.OfText.{OfLines, OfRead, OfSound}
use Rattle.desk_report.specs.Outcome.{Report, refusal_as}
use Rattle.desk_report.specs.declared.status.Status.TheVariants as is
use Rattle.desk_report.proofs.FirstFault.{once_fault}
use Rattle.desk_report.proofs.One.{IsOne, and_row, due_of_row, due_row, either_row, said_row}
use Rattle.desk_text.specs.Text.{IsTextOf, Reading, Text, is_end, refusal_line, refused, whole}
use Rattle.desk_text.specs.declared.problem.Problem.{Problem}
use Rattle.desk_text.proofs.OneText.{once_text}

sound_row : (says : Report → Type 0) (files : Files) (p : Position) → IsOne says → IsOne (OfSound says files p)
sound_row says files p one =
    either_row
    (due_of_row (IsFirstUnsoundness p) (λ why. refusal_as files is.Unsound (unsound_line why) false) (λ why e. absurd (cc))
    (λ e f a b. ap (λ why. refusal_as files is.Unsound (unsound_line why) false) (once_fault a b)))
    (and_row (SoundWithKings p) one)
    (λ r s fault sound. unsound_refuted fault.0 p fault.1 sound.0)

read_row : (says : Problem → Lines → Report → Type 0) (files : Files) → ((problem : Problem) (rest : Lines) → IsOne (says problem rest))
    → (text : Text Problem) → IsOne (OfRead says files text)
read_row says files one (refused number why) = due_row (refusal_as files is.Text (refusal_line number why) (is_end why)) (λ e. absurd (cc))
read_row says files one (whole problem rest) = sound_row (says problem rest) files problem.position (one problem rest)

pub text_row : (r : Reading Problem) (says : Problem → Lines → Report → Type 0) (files : Files)
    → ((problem : Problem) (rest : Lines) → IsOne (says problem rest))
    → (lines : Lines) → IsOne (OfLines r says files lines)
text_row r says files one lines =
    said_row (IsTextOf r lines) (OfRead says files) (λ a b h k. once_text r Header 1 lines a b h k) (read_row says files one)
