use Rattle.std.proofs.Common.{◌≡◌, ◌≤◌, take}
use Rattle.stock_text.specs.Kings.{king_count}
use Rattle.stock_text.proofs.kings.count_kings.Given as goal

abbrev pub invariant-loop-index : goal.invariant-loop-index
invariant-loop-index l =
    record {
      counted : l.count ≡ king_count l.side (take l.index l.men);
      few : l.count ≤ l.index;
    }
