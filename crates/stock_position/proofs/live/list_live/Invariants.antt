use Rattle.std.proofs.Common.{◌≡◌, ◌≤◌, take}
use Rattle.stock_position.specs.Live.{live_men}
use Rattle.stock_position.proofs.live.list_live.Given as goal

abbrev pub invariant-loop-i : goal.invariant-loop-i
invariant-loop-i l =
    record {
      men : take l.count l.men ≡ live_men (take l.i l.p.men);
      few : l.count ≤ l.i;
    }
