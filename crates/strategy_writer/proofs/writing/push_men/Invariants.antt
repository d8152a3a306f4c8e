use Rattle.std.proofs.Common.{◌≡◌, ◌++◌, drop}
use Rattle.std.specs.List.{flat_map}
use Rattle.strategy_writer.specs.Written.{man_bytes}
use Rattle.strategy_writer.proofs.writing.push_men.Given as goal

abbrev pub invariant-loop-n : goal.invariant-loop-n
invariant-loop-n l = l.out.items ++ flat_map man_bytes (drop l.n l.position.men) ≡ l.fn.out.items ++ flat_map man_bytes l.position.men
