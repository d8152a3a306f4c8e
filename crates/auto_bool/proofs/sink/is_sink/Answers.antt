use Rattle.std.proofs.Common.{sym, true≢false}
use Rattle.auto_bool.proofs.StayingStates.{not_test}
use Rattle.auto_bool.proofs.sink.is_sink.Goals as goal

pub returns-in-Test : goal.returns-in-Test
returns-in-Test c =
    let shapes = c.diagrams.ensures.shapes in
    let row = c.row_node.ensures in
    let test = c.in-Test in (
      λ h. absurd (true≢false (sym h)),
      λ is. absurd (not_test is row.map row.narrow (rw shapes at test.ensures.diagram) test.track test.low test.high row.known (rw shapes at test.ensures.fits) (rw shapes at test.ensures.children)),
    )
