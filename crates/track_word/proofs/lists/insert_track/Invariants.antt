use Rattle.std.proofs.Common.{◌≡◌, ◌++◌, take, drop}
use Rattle.track_word.specs.Tracks.{with_var}
use Rattle.track_word.proofs.lists.insert_track.Given as goal

abbrev pub invariant-loop-at : goal.invariant-loop-at
invariant-loop-at l = record {
  kept : l.tracks.items ≡ l.fn.tracks.items;
  passed : with_var l.track l.tracks.items ≡ take l.at l.tracks.items ++ with_var l.track (drop l.at l.tracks.items);
}
