use Rattle.std.proofs.Common.{◌≡◌, ◌-◌}
use Rattle.strategy_file.specs.Layout.{repeated}
use Rattle.strategy_file.specs.Reading.{taken, with_front}
use Rattle.strategy_file.specs.Tables.{entry_layout}
use Rattle.strategy_file.proofs.rows.push_row.Given as goal

abbrev pub invariant-loop : goal.invariant-loop
invariant-loop l =
    with_front l.row.items (taken (repeated (l.width - l.counter) (entry_layout l.states)) l.left.at l.left.bytes.now) ≡ with_front l.fn.row.items
    (taken (repeated l.width (entry_layout l.states)) l.rest.at l.rest.bytes.now)
