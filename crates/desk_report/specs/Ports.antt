-- The exposed state of ports, and how a command with a sink alone ends.
use Rattle.std.specs.Prelude.{ℕ, List, Option}
use Rattle.desk_base.specs.Failing.{SinkFailed}
use Rattle.desk_base.specs.Files.{Files}
use Rattle.desk_base.specs.declared.files.Shelf.{Ghosts as ShelfModel}
use Rattle.desk_base.specs.declared.sink.Sink.{Ghosts as SinkModel}
use Rattle.desk_base.specs.declared.source.Source.{Ghosts as SourceModel}
use Rattle.desk_report.specs.Outcome.{RunEndsAs, NeverMisses, Report, Seen, of_shelf, of_sink, of_streams, seen_of}
use Rattle.desk_report.specs.declared.status.Status.{Status}

-- the state of a sink, for a command that has nothing else
abbrev pub sink_seen : {K : Type 0} → SinkModel K → Files → K → Seen
sink_seen k files sink = of_sink files (k.written sink) (k.faults sink)

-- the state of a source and a sink
abbrev pub streams_seen : {S K : Type 0} → SourceModel S → SinkModel K → Files → S × K → Seen
streams_seen s k files ports =
    of_streams files (s.left ports.0) (k.written ports.1) (s.faults ports.0) (k.faults ports.1)

-- the state of a sink and a shelf
abbrev pub shelf_seen : {K H : Type 0} → SinkModel K → ShelfModel H → K × H → Seen
shelf_seen k h ports = of_shelf (k.written ports.0) (h.files ports.1) (k.faults ports.0) (h.faults ports.1)

-- the state of a source, a sink and a shelf
abbrev pub ports_seen : {S K H : Type 0} → SourceModel S → SinkModel K → ShelfModel H → S × K × H → Seen
ports_seen s k h ports =
    seen_of (s.left ports.0) (k.written ports.1) (h.files ports.2) (s.faults ports.0) (k.faults ports.1)
    (h.faults ports.2)

-- The relation is true of the bytes written before and after, as the sink exposes them, and of whether it failed in
-- between.
abbrev pub OnSink : {K : Type 0} → SinkModel K → (Option (List ℕ) → Option (List ℕ) → Type 0 → Type 0) → (old new : K)
    → Type 0
OnSink k Holds old new = Holds (k.written old) (k.written new) (SinkFailed k old new)

-- How a command with a sink alone ends, whatever the files are. The parameters say what is reported with them, and when
-- memory may run out.
abbrev pub EndsOnSink : {K : Type 0} → SinkModel K → Status → (Files → Report → Type 0) → (may_lack : Type 0)
    → (old new : K) → Type 0
EndsOnSink k status reports may_lack old new =
    (files : Files) → RunEndsAs status (reports files) may_lack NeverMisses (sink_seen k files old) (sink_seen k files new)
