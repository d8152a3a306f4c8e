use Rattle.std.proofs.Common.{◌≡◌, ◌≤◌, None}
use Rattle.stock_text.specs.Progress.{line_due}
use Rattle.desk_stock.proofs.TextSteps.{AreMen, SoFar, lines_left}
use Rattle.desk_stock.proofs.text.read_stock.Given as goal

abbrev pub invariant-loop-text : goal.invariant-loop-text
invariant-loop-text g l =
    let source = g.S.Source in
    record {
      goes_on : l.reader.stopped ≡ None;
      goes_on_text : l.text.end ≡ None;
      men : AreMen l.text.state;
      so_far : SoFar l.text.state (line_due l.text.state) l.reader.pending (source.left l.fn.source) (source.left l.source);
      faults : source.faults l.fn.source ≤ source.faults l.source;
    }

abbrev pub decreases-loop-text : goal.decreases-loop-text
decreases-loop-text g l = lines_left l.text.state
