use Rattle.std.proofs.Common.{◌≡◌, arith, rules}
use Rattle.letter_diagram.proofs.Maps.{Grows-refl, Grows-trans}
use Rattle.letter_diagram.proofs.SetNumbers.{SetsKept-refl, SetsKept-trans}
use Rattle.auto_project.proofs.Closures.{IsClosing-first, IsClosing-step, IsSetRow-same, IsSetRow-last}
use Rattle.auto_project.proofs.closure.TrackRows.closed.Goals as goal

pub loop-round-init : goal.loop-round-init
loop-round-init c = record {
  grows = Grows-refl _;
  kept = SetsKept-refl _;
  closing = IsClosing-first c.requires.rows (rw c.sets.ensures at c.len.ensures.ascend) c.requires.some c.requires.first;
}

pub returns-then-eq-clause-closed : goal.returns-then-eq-clause-closed
returns-then-eq-clause-closed c =
    let e = c.in_ok-next.ensures in
    let same : c.in_ok-next.next ≡ c.loop-round.node = search rules in
    IsSetRow-same _ _ _ _ _ _ _ _ _ _ e.grows e.kept c.loop-round.invariant.closing e.led e.swept e.ascend c.requires.valid same

pub loop-round-preserved : goal.loop-round-preserved
loop-round-preserved c =
    let e = c.in_ok-next.ensures in
    let i = c.loop-round.invariant in
    record {
      grows = Grows-trans i.grows e.grows;
      kept = SetsKept-trans i.kept e.kept;
      closing = IsClosing-step _ _ _ _ _ _ _ _ _ _ e.grows e.kept i.closing e.led e.swept e.ascend c.requires.valid;
    }

pub returns-clause-closed : goal.returns-clause-closed
returns-clause-closed c = IsSetRow-last c.loop-round.round c.requires.valid (omega arith) c.loop-round.invariant.closing

pub swept-requires-clause-rows : goal.swept-requires-clause-rows
swept-requires-clause-rows c = c.loop-round.invariant.closing.are_rows

pub swept-requires-clause-led : goal.swept-requires-clause-led
swept-requires-clause-led c = c.loop-round.invariant.closing.led

pub returns-then-eq-clause-grows : goal.returns-then-eq-clause-grows
returns-then-eq-clause-grows c = Grows-trans c.loop-round.invariant.grows c.in_ok-next.ensures.grows

pub returns-then-eq-clause-kept : goal.returns-then-eq-clause-kept
returns-then-eq-clause-kept c = SetsKept-trans c.loop-round.invariant.kept c.in_ok-next.ensures.kept
