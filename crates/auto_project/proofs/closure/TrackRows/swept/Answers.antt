use Rattle.letter_diagram.proofs.Mergings.{HasSets-grows}
use Rattle.auto_project.proofs.SetMapLemmas.{rows-sets}
use Rattle.auto_project.proofs.Closures.{HasStates-led, node-sets, ahead-sets, IsLedRow-round, IsSwept-round}
use Rattle.auto_project.proofs.closure.TrackRows.swept.Goals as goal

pub rows_of_sets-requires-clause-rows : goal.rows_of_sets-requires-clause-rows
rows_of_sets-requires-clause-rows c = rows-sets c.requires.rows

pub rows_of_sets-requires-clause-states : goal.rows_of_sets-requires-clause-states
rows_of_sets-requires-clause-states c = HasStates-led c.requires.valid c.requires.rows c.requires.led

pub compose-requires-clause-known : goal.compose-requires-clause-known
compose-requires-clause-known c =
    let e = c.in_ok-table.ensures in
    (HasSets-grows e.grows e.kept c.requires.led.is).known

pub compose-requires-clause-rows : goal.compose-requires-clause-rows
compose-requires-clause-rows c = rw c.as_slice.ensures.value c.in_ok-table.ensures.rows.known

pub compose-requires-clause-leaves : goal.compose-requires-clause-leaves
compose-requires-clause-leaves c = rw c.as_slice.ensures.value c.in_ok-table.ensures.rows.within

pub unite-requires-clause-a_sets : goal.unite-requires-clause-a_sets
unite-requires-clause-a_sets c =
    let t = c.in_ok-table.ensures in
    let e = c.in_ok-ahead.ensures in
    node-sets c.requires.valid c.requires.rows c.requires.led t.grows t.kept t.rows e.grows e.sets (rw c.as_slice.ensures.value at e.composed)

pub unite-requires-clause-b_sets : goal.unite-requires-clause-b_sets
unite-requires-clause-b_sets c =
    let t = c.in_ok-table.ensures in
    let e = c.in_ok-ahead.ensures in
    ahead-sets c.requires.valid c.requires.rows c.requires.led t.grows t.kept t.rows e.grows e.sets (rw c.as_slice.ensures.value at e.composed)

pub returns-clause-led : goal.returns-clause-led
returns-clause-led c =
    let t = c.in_ok-table.ensures in
    let e = c.in_ok-ahead.ensures in
    let n = c.in_ok-next.ensures in
    IsLedRow-round c.requires.valid c.requires.rows c.requires.led t.grows t.kept t.rows e.grows e.sets (rw c.as_slice.ensures.value at e.composed) n.grows n.kept n.united

pub returns-clause-swept : goal.returns-clause-swept
returns-clause-swept c =
    let t = c.in_ok-table.ensures in
    let e = c.in_ok-ahead.ensures in
    let n = c.in_ok-next.ensures in
    IsSwept-round c.requires.valid c.requires.rows c.requires.led t.grows t.kept t.rows e.grows e.sets (rw c.as_slice.ensures.value at e.composed) n.grows n.kept n.united
