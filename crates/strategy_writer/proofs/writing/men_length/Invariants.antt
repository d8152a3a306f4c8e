use Rattle.std.proofs.Common.{◌≡◌, ◌≤◌, ◌+◌, ◌*◌, drop, take, length, All}
use Rattle.std.specs.List.{flat_map}
use Rattle.chess_game.specs.Near.{IsNarrowMan}
use Rattle.strategy_writer.specs.Written.{man_bytes}
use Rattle.strategy_writer.proofs.writing.men_length.Given as goal

abbrev pub invariant-loop-n : goal.invariant-loop-n
invariant-loop-n l = record {
  total : l.total + length (flat_map man_bytes (drop l.n l.position.men)) ≡ length (flat_map man_bytes l.position.men);
  bound : l.total ≤ 19 * l.n;
  narrow : All IsNarrowMan (take l.n l.position.men);
}
