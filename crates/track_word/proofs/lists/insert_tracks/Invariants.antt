use Rattle.std.proofs.Common.{◌≡◌, reverse}
use Rattle.track_word.specs.Tracks.{with_vars}
use Rattle.track_word.proofs.lists.insert_tracks.Given as goal

abbrev pub invariant-loop-track : goal.invariant-loop-track
invariant-loop-track l = l.tracks.items ≡ with_vars (reverse l.yielded) l.fn.tracks.items
