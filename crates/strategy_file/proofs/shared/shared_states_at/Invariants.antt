use Rattle.std.proofs.Common.{◌≡◌, ◌-◌, ◌<◌, length, All}
use Rattle.std.specs.List.{zip}
use Rattle.strategy_file.specs.Layout.{repeated}
use Rattle.strategy_file.specs.Reading.{taken, with_front}
use Rattle.strategy_file.specs.SharedTables.{shared_state_layout}
use Rattle.strategy_file.proofs.shared.shared_states_at.Given as goal

abbrev pub invariant-loop : goal.invariant-loop
invariant-loop l = record {
  flags : length l.accept.items ≡ l.counter;
  rows : length l.rows.items ≡ l.counter;
  within : All (λ row. row < l.references) l.rows.items;
  so_far : with_front (zip l.accept.items l.rows.items) (taken (repeated (l.states - l.counter) (shared_state_layout l.references)) l.left.at l.left.bytes.now)
      ≡ taken (repeated l.states (shared_state_layout l.references)) l.rest.at l.rest.bytes.now;
}
