use Rattle.std.proofs.Common.{◌≡◌, ◌≤◌, None}
use Rattle.chess_text.specs.Progress.{line_due}
use Rattle.desk_text.specs.Text.{texts_of}
use Rattle.desk_text.proofs.TextSteps.{AreMen, SoFar, lines_left}
use Rattle.desk_text.proofs.text.read_text.Given as goal

abbrev pub invariant-loop-text : goal.invariant-loop-text
invariant-loop-text g l =
    let source = g.S.Source in
    record {
      goes_on : l.reader.stopped ≡ None;
      goes_on_text : l.text.end ≡ None;
      grammar : l.text.grammar ≡ l.fn.grammar;
      men : AreMen l.fn.grammar l.text.stage;
      so_far : SoFar (texts_of l.fn.grammar) l.text.stage (line_due l.text.stage) l.reader.pending (source.left l.fn.source) (source.left l.source);
      faults : source.faults l.fn.source ≤ source.faults l.source;
    }

abbrev pub decreases-loop-text : goal.decreases-loop-text
decreases-loop-text g l = lines_left l.fn.grammar l.text.stage
