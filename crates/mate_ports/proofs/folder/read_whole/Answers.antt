use Rattle.std.proofs.Common.{◌<◌, length, arith}
use Rattle.mate_ports.proofs.Fronts.{whole_front}
use Rattle.mate_ports.proofs.folder.read_whole.Goals as goal

pub returns-clause-all : goal.returns-clause-all
returns-clause-all g c =
    let bytes = c.read_to_end.new.buf in
    let short : length bytes.items < c.take-front.result.limit =
    omega (arith, c.take-front.ensures.limit, c.saturating_add.ensures, c.if-len-limit.false, c.len.ensures, bytes.ok, bytes.small)
    in
    rw (← c.take-front.ensures.inner)
    (whole_front (g.F.Read.remaining c.take-front.result.inner) c.take-front.result.limit c.new-bytes.result.items bytes.items c.new-bytes.ensures.items short c.in_default.ensures.bytes)
