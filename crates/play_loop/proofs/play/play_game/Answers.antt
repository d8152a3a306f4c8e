use Rattle.std.proofs.Common.{sym, arith, rules}
use Rattle.desk_text.proofs.TextSteps.{line_read}
use Rattle.play_loop.specs.Played.{ports}
use Rattle.play_loop.proofs.GameSteps.{cut_came, first_due, first_lasts, long_came, most_read, no_line_came, not_settled, opening_failed, opening_on, opening_over, read_failed, reply_failed, reply_lasts, reply_on, reply_over, risen_from}
use Rattle.play_loop.proofs.play.play_game.Goals as goal

pub returns-in-Ok-Some-clause-plays : goal.returns-in-Ok-Some-clause-plays
returns-in-Ok-Some-clause-plays g c =
    let source = g.S.Source in
    let sink = g.K.Sink in
    let player = g.P.Player in
    opening_over player.rules player.is_kept g.met.P.Player.playable c.args.before (player.seen c.args.player.now) c.args.reader.now.pending (source.left c.args.source.now) (sink.written c.args.sink.now) (sink.written c.go_on.new.sink)
    c.go_on.ensures.kept c.requires.held (player.seen c.go_on.new.player) c.in-Ok-Some.ending (rw c.in-Ok-Some.field-0-is at c.in-Ok-Some.ensures.comes)

pub returns-in-Err-clause-plays : goal.returns-in-Err-clause-plays
returns-in-Err-clause-plays g c =
    let source = g.S.Source in
    let sink = g.K.Sink in
    let player = g.P.Player in
    opening_failed player.rules player.is_kept g.met.P.Player.playable c.args.before (player.seen c.args.player.now) c.args.reader.now.pending (source.left c.args.source.now) (sink.written c.args.sink.now) (sink.written c.go_on.new.sink)
    c.go_on.ensures.kept c.requires.held (player.seen c.go_on.new.player) c.in-Err.field-0 c.in-Err.ensures.comes

pub loop-read-init : goal.loop-read-init
loop-read-init g c =
    let source = g.S.Source in
    let sink = g.K.Sink in
    let player = g.P.Player in
    let old = player.seen c.args.player.now in
    let now = player.seen c.go_on.new.player in
    let comes = rw c.in-Ok-None.field-0-is at c.in-Ok-None.ensures.comes in
    let so_far =
    opening_on player.rules player.is_kept g.met.P.Player.playable c.args.before old c.args.reader.now.pending (source.left c.args.source.now) (sink.written c.args.sink.now) (sink.written c.go_on.new.sink) c.go_on.ensures.kept now comes in
    let due = first_lasts player.rules player.is_kept g.met.P.Player.playable old now (sink.written c.args.sink.now) (sink.written c.go_on.new.sink) c.go_on.ensures.kept comes in
    record {
      kept = due.0;
      stands = due.1;
      goes_on = c.requires.goes_on;
      few = c.requires.held;
      first =
          first_due player.rules c.args.before old now
          (ports c.args.reader.now.pending (source.left c.args.source.now) (sink.written c.args.sink.now)) c.args.reader.now.pending
          (source.left c.args.source.now) (sink.written c.go_on.new.sink) so_far;
      so_far = so_far;
      reads = omega arith;
      writes = c.go_on.ensures.never_falls;
    }

pub reply-requires : goal.reply-requires
reply-requires g c = record { due = c.loop-read.invariant.stands }

pub returns-in-Ok-Some-reply-clause-plays : goal.returns-in-Ok-Some-reply-clause-plays
returns-in-Ok-Some-reply-clause-plays g c =
    let source = g.S.Source in
    let sink = g.K.Sink in
    let player = g.P.Player in
    let inv = c.loop-read.invariant in
    let call = c.in-Ok-Full.ensures in
    let first = ports c.args.reader.now.pending (source.left c.args.source.now) (sink.written c.args.sink.now) in
    let took = rw (c.in-Ok-Full.field-0-is, sym c.line.ensures) at (call.lines inv.goes_on) in
    let is_line = line_read _ c.loop-read.reader.line _ (rw (c.in-Ok-Full.field-0-is, sym c.line.ensures) at (call.line inv.goes_on)) in
    reply_over player.rules player.is_kept g.met.P.Player.playable c.args.before c.loop-read.read (player.seen c.args.player.now) (player.seen c.loop-read.player) first c.loop-read.reader.pending
    (source.left c.loop-read.source) (sink.written c.loop-read.sink) inv.so_far c.loop-read-test.true _ c.line.result.now c.next_line.new.self.pending (source.left c.next_line.new.source)
    (sink.written c.reply.new.sink) took is_line (inv.kept, inv.stands) call.within (player.seen c.reply.new.player) c.in-Ok-Some-reply.ending (rw c.in-Ok-Some-reply.field-0-is at c.in-Ok-Some-reply.ensures.comes)

pub returns-in-Ok-Some-reply-clause-settled : goal.returns-in-Ok-Some-reply-clause-settled
returns-in-Ok-Some-reply-clause-settled g c =
    let player = g.P.Player in
    λ settled. absurd (not_settled player.rules player.is_kept g.met.P.Player.playable c.args.before (player.seen c.args.player.now) c.loop-read.invariant.first settled)

pub returns-in-Ok-Some-reply-clause-reads_never_fall : goal.returns-in-Ok-Some-reply-clause-reads_never_fall
returns-in-Ok-Some-reply-clause-reads_never_fall g c =
    let inv = c.loop-read.invariant in omega (arith, inv.reads, c.next_line.ensures.never_falls)

pub returns-in-Ok-Some-reply-clause-writes_never_fall : goal.returns-in-Ok-Some-reply-clause-writes_never_fall
returns-in-Ok-Some-reply-clause-writes_never_fall g c =
    let inv = c.loop-read.invariant in omega (arith, inv.writes, c.reply.ensures.never_falls)

pub returns-in-Err-reply-clause-plays : goal.returns-in-Err-reply-clause-plays
returns-in-Err-reply-clause-plays g c =
    let source = g.S.Source in
    let sink = g.K.Sink in
    let player = g.P.Player in
    let inv = c.loop-read.invariant in
    let call = c.in-Ok-Full.ensures in
    let first = ports c.args.reader.now.pending (source.left c.args.source.now) (sink.written c.args.sink.now) in
    let took = rw (c.in-Ok-Full.field-0-is, sym c.line.ensures) at (call.lines inv.goes_on) in
    let is_line = line_read _ c.loop-read.reader.line _ (rw (c.in-Ok-Full.field-0-is, sym c.line.ensures) at (call.line inv.goes_on)) in
    reply_failed player.rules player.is_kept g.met.P.Player.playable c.args.before c.loop-read.read (player.seen c.args.player.now) (player.seen c.loop-read.player) first c.loop-read.reader.pending
    (source.left c.loop-read.source) (sink.written c.loop-read.sink) inv.so_far c.loop-read-test.true _ c.line.result.now c.next_line.new.self.pending (source.left c.next_line.new.source)
    (sink.written c.reply.new.sink) took is_line (inv.kept, inv.stands) call.within (player.seen c.reply.new.player) c.in-Err-reply.field-0 c.in-Err-reply.ensures.comes

pub returns-in-Err-reply-clause-settled : goal.returns-in-Err-reply-clause-settled
returns-in-Err-reply-clause-settled g c =
    let player = g.P.Player in
    λ settled. absurd (not_settled player.rules player.is_kept g.met.P.Player.playable c.args.before (player.seen c.args.player.now) c.loop-read.invariant.first settled)

pub returns-in-Err-reply-clause-write_failed : goal.returns-in-Err-reply-clause-write_failed
returns-in-Err-reply-clause-write_failed g c =
    let sink = g.K.Sink in
    let inv = c.loop-read.invariant in
    let risen = c.in-Err-reply.ensures.failed in
    λ is. risen_from (sink.faults c.args.sink.now) (sink.faults c.loop-read.sink) (sink.faults c.reply.new.sink) inv.writes risen

pub returns-in-Err-reply-clause-reads_never_fall : goal.returns-in-Err-reply-clause-reads_never_fall
returns-in-Err-reply-clause-reads_never_fall g c =
    let inv = c.loop-read.invariant in omega (arith, inv.reads, c.next_line.ensures.never_falls)

pub returns-in-Err-reply-clause-writes_never_fall : goal.returns-in-Err-reply-clause-writes_never_fall
returns-in-Err-reply-clause-writes_never_fall g c =
    let inv = c.loop-read.invariant in omega (arith, inv.writes, c.reply.ensures.never_falls)

pub returns-in-Ok-End-clause-plays : goal.returns-in-Ok-End-clause-plays
returns-in-Ok-End-clause-plays g c =
    let source = g.S.Source in
    let sink = g.K.Sink in
    let player = g.P.Player in
    let old = player.seen c.args.player.now in
    let inv = c.loop-read.invariant in
    let first = ports c.args.reader.now.pending (source.left c.args.source.now) (sink.written c.args.sink.now) in
    no_line_came player.rules c.args.before c.loop-read.read old (player.seen c.loop-read.player) first c.loop-read.reader.pending
    (source.left c.loop-read.source) (sink.written c.loop-read.sink) inv.so_far c.loop-read-test.true c.next_line.new.self.line c.next_line.new.self.pending (source.left c.next_line.new.source)
    c.next_line.ensures.within (rw c.in-Ok-End.field-0-is at (c.in-Ok-End.ensures.lines inv.goes_on))

pub returns-in-Ok-End-clause-settled : goal.returns-in-Ok-End-clause-settled
returns-in-Ok-End-clause-settled g c =
    let player = g.P.Player in
    λ settled. absurd (not_settled player.rules player.is_kept g.met.P.Player.playable c.args.before (player.seen c.args.player.now) c.loop-read.invariant.first settled)

pub returns-in-Ok-End-clause-reads_never_fall : goal.returns-in-Ok-End-clause-reads_never_fall
returns-in-Ok-End-clause-reads_never_fall g c =
    let inv = c.loop-read.invariant in omega (arith, inv.reads, c.next_line.ensures.never_falls)

pub returns-in-Ok-End-clause-writes_never_fall : goal.returns-in-Ok-End-clause-writes_never_fall
returns-in-Ok-End-clause-writes_never_fall g c =
    let inv = c.loop-read.invariant in inv.writes

pub returns-in-Err-Cut-clause-plays : goal.returns-in-Err-Cut-clause-plays
returns-in-Err-Cut-clause-plays g c =
    let source = g.S.Source in
    let sink = g.K.Sink in
    let player = g.P.Player in
    let old = player.seen c.args.player.now in
    let inv = c.loop-read.invariant in
    let first = ports c.args.reader.now.pending (source.left c.args.source.now) (sink.written c.args.sink.now) in
    cut_came player.rules c.args.before c.loop-read.read old (player.seen c.loop-read.player) first c.loop-read.reader.pending
    (source.left c.loop-read.source) (sink.written c.loop-read.sink) inv.so_far c.loop-read-test.true c.next_line.new.self.line c.next_line.new.self.pending (source.left c.next_line.new.source)
    c.next_line.ensures.within (rw c.in-Err-Cut.field-0-is at (c.in-Err-Cut.ensures.lines inv.goes_on))

pub returns-in-Err-Cut-clause-settled : goal.returns-in-Err-Cut-clause-settled
returns-in-Err-Cut-clause-settled g c =
    let player = g.P.Player in
    λ settled. absurd (not_settled player.rules player.is_kept g.met.P.Player.playable c.args.before (player.seen c.args.player.now) c.loop-read.invariant.first settled)

pub returns-in-Err-Cut-clause-reads_never_fall : goal.returns-in-Err-Cut-clause-reads_never_fall
returns-in-Err-Cut-clause-reads_never_fall g c =
    let inv = c.loop-read.invariant in omega (arith, inv.reads, c.next_line.ensures.never_falls)

pub returns-in-Err-Cut-clause-writes_never_fall : goal.returns-in-Err-Cut-clause-writes_never_fall
returns-in-Err-Cut-clause-writes_never_fall g c =
    let inv = c.loop-read.invariant in inv.writes

pub returns-in-Err-TooLong-clause-plays : goal.returns-in-Err-TooLong-clause-plays
returns-in-Err-TooLong-clause-plays g c =
    let source = g.S.Source in
    let sink = g.K.Sink in
    let player = g.P.Player in
    let old = player.seen c.args.player.now in
    let inv = c.loop-read.invariant in
    let first = ports c.args.reader.now.pending (source.left c.args.source.now) (sink.written c.args.sink.now) in
    long_came player.rules c.args.before c.loop-read.read old (player.seen c.loop-read.player) first c.loop-read.reader.pending
    (source.left c.loop-read.source) (sink.written c.loop-read.sink) inv.so_far c.loop-read-test.true c.next_line.new.self.line c.next_line.new.self.pending (source.left c.next_line.new.source)
    c.next_line.ensures.within (rw c.in-Err-TooLong.field-0-is at (c.in-Err-TooLong.ensures.lines inv.goes_on))

pub returns-in-Err-TooLong-clause-settled : goal.returns-in-Err-TooLong-clause-settled
returns-in-Err-TooLong-clause-settled g c =
    let player = g.P.Player in
    λ settled. absurd (not_settled player.rules player.is_kept g.met.P.Player.playable c.args.before (player.seen c.args.player.now) c.loop-read.invariant.first settled)

pub returns-in-Err-TooLong-clause-reads_never_fall : goal.returns-in-Err-TooLong-clause-reads_never_fall
returns-in-Err-TooLong-clause-reads_never_fall g c =
    let inv = c.loop-read.invariant in omega (arith, inv.reads, c.next_line.ensures.never_falls)

pub returns-in-Err-TooLong-clause-writes_never_fall : goal.returns-in-Err-TooLong-clause-writes_never_fall
returns-in-Err-TooLong-clause-writes_never_fall g c =
    let inv = c.loop-read.invariant in inv.writes

pub returns-in-Err-Read-clause-plays : goal.returns-in-Err-Read-clause-plays
returns-in-Err-Read-clause-plays g c =
    let source = g.S.Source in
    let sink = g.K.Sink in
    let player = g.P.Player in
    let old = player.seen c.args.player.now in
    let inv = c.loop-read.invariant in
    let first = ports c.args.reader.now.pending (source.left c.args.source.now) (sink.written c.args.sink.now) in
    read_failed player.rules c.args.before c.loop-read.read old (player.seen c.loop-read.player) first c.loop-read.reader.pending
    (source.left c.loop-read.source) (sink.written c.loop-read.sink) inv.so_far c.loop-read-test.true c.next_line.new.self.line c.next_line.new.self.pending (source.left c.next_line.new.source)
    c.next_line.ensures.within (rw c.in-Err-Read.field-0-is at (c.in-Err-Read.ensures.lines inv.goes_on))

pub returns-in-Err-Read-clause-settled : goal.returns-in-Err-Read-clause-settled
returns-in-Err-Read-clause-settled g c =
    let player = g.P.Player in
    λ settled. absurd (not_settled player.rules player.is_kept g.met.P.Player.playable c.args.before (player.seen c.args.player.now) c.loop-read.invariant.first settled)

pub returns-in-Err-Read-clause-read_failed : goal.returns-in-Err-Read-clause-read_failed
returns-in-Err-Read-clause-read_failed g c =
    let source = g.S.Source in
    let inv = c.loop-read.invariant in
    let risen = c.in-Err-Read.ensures.failed inv.goes_on (search rules) in
    λ is. risen_from (source.faults c.args.source.now) (source.faults c.loop-read.source) (source.faults c.next_line.new.source) inv.reads risen

pub returns-in-Err-Read-clause-reads_never_fall : goal.returns-in-Err-Read-clause-reads_never_fall
returns-in-Err-Read-clause-reads_never_fall g c =
    let inv = c.loop-read.invariant in omega (arith, inv.reads, c.next_line.ensures.never_falls)

pub returns-in-Err-Read-clause-writes_never_fall : goal.returns-in-Err-Read-clause-writes_never_fall
returns-in-Err-Read-clause-writes_never_fall g c =
    let inv = c.loop-read.invariant in inv.writes

pub loop-read-preserved : goal.loop-read-preserved
loop-read-preserved g c =
    let source = g.S.Source in
    let sink = g.K.Sink in
    let player = g.P.Player in
    let now = player.seen c.loop-read.player in
    let after = player.seen c.reply.new.player in
    let inv = c.loop-read.invariant in
    let call = c.in-Ok-Full.ensures in
    let first = ports c.args.reader.now.pending (source.left c.args.source.now) (sink.written c.args.sink.now) in
    let took = rw (c.in-Ok-Full.field-0-is, sym c.line.ensures) at (call.lines inv.goes_on) in
    let is_line = line_read _ c.loop-read.reader.line _ (rw (c.in-Ok-Full.field-0-is, sym c.line.ensures) at (call.line inv.goes_on)) in
    let comes = rw c.in-Ok-None-reply.field-0-is at c.in-Ok-None-reply.ensures.comes in
    let due = reply_lasts player.rules player.is_kept g.met.P.Player.playable now after c.line.result.now (sink.written c.loop-read.sink) (sink.written c.reply.new.sink) (inv.kept, inv.stands) comes in
    record {
      kept = due.0;
      stands = due.1;
      goes_on = rw c.in-Ok-Full.field-0-is at (call.stops inv.goes_on);
      few = call.within;
      first = inv.first;
      so_far =
          reply_on player.rules player.is_kept g.met.P.Player.playable c.args.before c.loop-read.read (player.seen c.args.player.now) now first c.loop-read.reader.pending
          (source.left c.loop-read.source) (sink.written c.loop-read.sink) inv.so_far c.loop-read-test.true _ c.line.result.now c.next_line.new.self.pending (source.left c.next_line.new.source)
          (sink.written c.reply.new.sink) took is_line (inv.kept, inv.stands) after comes;
      reads = omega (arith, inv.reads, c.next_line.ensures.never_falls);
      writes = omega (arith, inv.writes, c.reply.ensures.never_falls);
    }

pub returns-clause-plays : goal.returns-clause-plays
returns-clause-plays g c =
    let source = g.S.Source in
    let sink = g.K.Sink in
    let player = g.P.Player in
    let inv = c.loop-read.invariant in
    let first = ports c.args.reader.now.pending (source.left c.args.source.now) (sink.written c.args.sink.now) in
    most_read player.rules c.args.before c.loop-read.read (player.seen c.args.player.now) (player.seen c.loop-read.player) first c.loop-read.reader.pending
    (source.left c.loop-read.source) (sink.written c.loop-read.sink) inv.so_far (grind (arith, c.loop-read-test.false, c.loop-read.auto.read-end)) inv.few

pub returns-clause-settled : goal.returns-clause-settled
returns-clause-settled g c =
    let player = g.P.Player in
    λ settled. absurd (not_settled player.rules player.is_kept g.met.P.Player.playable c.args.before (player.seen c.args.player.now) c.loop-read.invariant.first settled)

pub returns-clause-reads_never_fall : goal.returns-clause-reads_never_fall
returns-clause-reads_never_fall g c =
    c.loop-read.invariant.reads

pub returns-clause-writes_never_fall : goal.returns-clause-writes_never_fall
returns-clause-writes_never_fall g c =
    c.loop-read.invariant.writes
