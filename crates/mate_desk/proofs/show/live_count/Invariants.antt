use Rattle.std.proofs.Common.{◌≡◌, ◌≤◌, take}
use Rattle.std.specs.Prelude.{count_by, is_some}
use Rattle.game_rules.specs.Game.{square_of}
use Rattle.mate_desk.proofs.show.live_count.Given as goal

abbrev pub invariant-loop-index : goal.invariant-loop-index
invariant-loop-index l = record {
  counted : l.live ≡ count_by (λ m. is_some (square_of m)) (take l.index l.p.men);
  few : l.live ≤ l.index;
}
