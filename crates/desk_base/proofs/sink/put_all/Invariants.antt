use Rattle.std.proofs.Common.{◌-◌, ◌≤◌, length, take}
use Rattle.std.specs.Io.KnownBytes.{Appends}
use Rattle.desk_base.proofs.sink.put_all.Given as goal

abbrev pub invariant-loop-sent : goal.invariant-loop-sent
invariant-loop-sent g l =
    let sink = g.K.Sink in
    record {
      within : l.sent ≤ length l.bytes;
      written : Appends (sink.written l.fn.sink) (sink.written l.sink) (take l.sent l.bytes);
      faults : sink.faults l.fn.sink ≤ sink.faults l.sink;
    }

abbrev pub decreases-loop-sent : goal.decreases-loop-sent
decreases-loop-sent g l = length l.bytes - l.sent
