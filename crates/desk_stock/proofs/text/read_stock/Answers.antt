use Rattle.std.proofs.Common.{◌≡◌, None, arith}
use Rattle.desk_text.proofs.TextSteps.{line_read}
use Rattle.stock_text.specs.StockText.{Feeds}
use Rattle.stock_text.specs.StockText as turnouts
use Rattle.desk_stock.proofs.TextSteps.{answer_more, answer_whole, fed_more, reads_on, is_whole, is_wrong, is_missing, is_cut, is_long, is_fault}
use Rattle.desk_stock.proofs.text.read_stock.Goals as goal

pub loop-text-preserved : goal.loop-text-preserved
loop-text-preserved g c =
    let inv = c.loop-text.invariant in
    let call = c.in-Ok-Full.ensures in
    let more : Feeds c.loop-text.text.state c.line.result.now (turnouts.more c.feed_line.new.self.state) × (c.feed_line.new.self.end ≡ None) =
    answer_more c.loop-text.text.state c.line.result.now c.in-Ok-More.field-0 c.feed_line.new.self c.in-Ok-More.field-0-is
    (c.in-Ok-More.ensures.reads inv.goes_on_text) in
    let step = fed_more c.loop-text.text.state c.feed_line.new.self.state c.line.result.now inv.men more.0 in
    record {
      goes_on = rw c.in-Ok-Full.field-0-is at (call.stops inv.goes_on);
      goes_on_text = more.1;
      men = step.men;
      so_far =
          rw (← step.counted) at (reads_on _ _ _ _ _ _ _ _ inv.so_far _ (rw c.in-Ok-Full.field-0-is at (call.lines inv.goes_on))
          (line_read _ c.loop-text.reader.line _ (rw c.in-Ok-Full.field-0-is at (call.line inv.goes_on))) _
          (rw c.line.ensures at more.0));
      faults = omega (arith, inv.faults, c.next_line.ensures.never_falls);
    }

pub returns-in-Ok-Whole-clause-reads : goal.returns-in-Ok-Whole-clause-reads
returns-in-Ok-Whole-clause-reads g c =
    let inv = c.loop-text.invariant in
    let call = c.in-Ok-Full.ensures in
    let last : Feeds c.loop-text.text.state c.line.result.now (turnouts.complete c.whole_stock.result) =
    answer_whole c.loop-text.text.state c.line.result.now c.in-Ok-Whole.field-0 c.feed_line.new.self c.whole_stock.result
    c.in-Ok-Whole.field-0-is c.whole_stock.ensures.says (c.in-Ok-Whole.ensures.reads inv.goes_on_text) in
    is_whole _ _ _ _ _ _ _ _ inv.so_far _ (rw c.in-Ok-Full.field-0-is at (call.lines inv.goes_on))
    (line_read _ c.loop-text.reader.line _ (rw c.in-Ok-Full.field-0-is at (call.line inv.goes_on))) c.whole_stock.result call.within
    (rw c.line.ensures at last)

pub returns-in-Err-clause-reads : goal.returns-in-Err-clause-reads
returns-in-Err-clause-reads g c =
    let inv = c.loop-text.invariant in
    let call = c.in-Ok-Full.ensures in
    let feeds = c.in-Err.ensures.reads inv.goes_on_text in
    is_wrong _ _ _ _ _ _ _ _ (rw (← feeds.1) at inv.so_far) _ (rw c.in-Ok-Full.field-0-is at (call.lines inv.goes_on))
    (line_read _ c.loop-text.reader.line _ (rw c.in-Ok-Full.field-0-is at (call.line inv.goes_on))) _ call.within
    (rw c.line.ensures at feeds.0)

pub returns-in-Ok-End-clause-reads : goal.returns-in-Ok-End-clause-reads
returns-in-Ok-End-clause-reads g c =
    let inv = c.loop-text.invariant in
    let call = c.in-Ok-End.ensures in
    is_missing _ _ _ _ _ _ _ _ (rw (← c.line_due-number.ensures) at inv.so_far) call.within (rw c.in-Ok-End.field-0-is at (call.lines inv.goes_on))

pub returns-in-Err-Cut-clause-reads : goal.returns-in-Err-Cut-clause-reads
returns-in-Err-Cut-clause-reads g c =
    let inv = c.loop-text.invariant in
    let call = c.in-Err-Cut.ensures in
    is_cut _ _ _ _ _ _ _ _ (rw (← c.line_due-number.ensures) at inv.so_far) call.within (rw c.in-Err-Cut.field-0-is at (call.lines inv.goes_on))

pub returns-in-Err-TooLong-clause-reads : goal.returns-in-Err-TooLong-clause-reads
returns-in-Err-TooLong-clause-reads g c =
    let inv = c.loop-text.invariant in
    let call = c.in-Err-TooLong.ensures in
    is_long _ _ _ _ _ _ _ _ (rw (← c.line_due-number.ensures) at inv.so_far) call.within (rw c.in-Err-TooLong.field-0-is at (call.lines inv.goes_on))

pub returns-in-Err-Read-clause-reads : goal.returns-in-Err-Read-clause-reads
returns-in-Err-Read-clause-reads g c =
    let inv = c.loop-text.invariant in
    let call = c.in-Err-Read.ensures in
    is_fault _ _ _ _ _ _ _ _ inv.so_far call.within (rw c.in-Err-Read.field-0-is at (call.lines inv.goes_on))
