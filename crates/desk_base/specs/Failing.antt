-- Ports that failed.
use Rattle.desk_base.specs.Faults.{HasRisen}
use Rattle.desk_base.specs.declared.sink.Sink.{Ghosts as SinkModel}
use Rattle.desk_base.specs.declared.source.Source.{Ghosts as SourceModel}

-- the source, which was `old` and is `new`, has failed
abbrev pub SourceFailed : {S : Type 0} → SourceModel S → (old new : S) → Type 0
SourceFailed s old new = HasRisen (s.faults old) (s.faults new)

-- the sink, which was `old` and is `new`, has failed
abbrev pub SinkFailed : {K : Type 0} → SinkModel K → (old new : K) → Type 0
SinkFailed k old new = HasRisen (k.faults old) (k.faults new)
