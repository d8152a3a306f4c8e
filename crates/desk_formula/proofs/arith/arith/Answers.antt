use Rattle.std.proofs.Common.{Err, ap}
use Rattle.desk_base.specs.Reading.{Reading}
use Rattle.desk_text.proofs.TextSteps.{line_read}
use Rattle.desk_formula.proofs.FirstLine.{cut_ends, fault_ends, line_ends, long_ends, missing_ends}
use Rattle.desk_formula.proofs.arith.arith.Goals as goal

pub returns-in-Ok-Full : goal.returns-in-Ok-Full
returns-in-Ok-Full g c = record {
  ends = λ files.
      let call = c.in-Ok-Full.ensures in
      let fresh = ap (λ (r : Reading). r.stopped) c.new-reader.ensures in
      let reader = c.next_line.new.self in (
        reader.pending,
        line_ends c.args.budget files reader.line reader.pending call.within _ _ _ _ _ _ _ _ _ (rw (c.new-reader.ensures, c.in-Ok-Full.field-0-is) at (call.lines fresh))
            (line_read _ c.new-reader.result.line _ (rw c.in-Ok-Full.field-0-is at (call.line fresh))) c.answer_line.result
            (rw c.line.ensures at (c.answer_line.ensures.ends files)),
      );
}

pub returns-in-Ok-End : goal.returns-in-Ok-End
returns-in-Ok-End g c = record {
  ends = λ files.
      let call = c.in-Ok-End.ensures in
      let fresh = ap (λ (r : Reading). r.stopped) c.new-reader.ensures in
      let reader = c.next_line.new.self in (
        reader.pending,
        rw c.refuse_line.ensures.status (missing_ends c.args.budget files reader.line reader.pending call.within _ _ _ _ _ _ _ _
            (rw (c.new-reader.ensures, c.in-Ok-End.field-0-is) at (call.lines fresh)) c.refuse_line.ensures.written),
      );
}

pub returns-in-Err-Cut : goal.returns-in-Err-Cut
returns-in-Err-Cut g c = record {
  ends = λ files.
      let call = c.in-Err-Cut.ensures in
      let fresh = ap (λ (r : Reading). r.stopped) c.new-reader.ensures in
      let reader = c.next_line.new.self in (
        reader.pending,
        rw c.refuse_line-in-Err-Cut.ensures.status (cut_ends c.args.budget files reader.line reader.pending call.within _ _ _ _ _ _ _ _
            (rw (c.new-reader.ensures, c.in-Err-Cut.field-0-is) at (call.lines fresh)) c.refuse_line-in-Err-Cut.ensures.written),
      );
}

pub returns-in-Err-TooLong : goal.returns-in-Err-TooLong
returns-in-Err-TooLong g c = record {
  ends = λ files.
      let call = c.in-Err-TooLong.ensures in
      let fresh = ap (λ (r : Reading). r.stopped) c.new-reader.ensures in
      let reader = c.next_line.new.self in (
        reader.pending,
        rw c.refuse_line-in-Err-TooLong.ensures.status (long_ends c.args.budget files reader.line reader.pending call.within _ _ _ _ _ _ _ _
            (rw (c.new-reader.ensures, c.in-Err-TooLong.field-0-is) at (call.lines fresh)) c.refuse_line-in-Err-TooLong.ensures.written),
      );
}

pub returns-in-Err-Read : goal.returns-in-Err-Read
returns-in-Err-Read g c = record {
  ends = λ files.
      let call = c.in-Err-Read.ensures in
      let fresh = ap (λ (r : Reading). r.stopped) c.new-reader.ensures in
      let reader = c.next_line.new.self in (
        reader.pending,
        fault_ends c.args.budget files reader.line reader.pending call.within _ _ _ _ _ _ _ _
            (rw (c.new-reader.ensures, c.in-Err-Read.field-0-is) at (call.lines fresh)) (call.failed fresh (ap Err c.in-Err-Read.field-0-is)) c.refuse.ensures.written,
      );
}
