use Rattle.std.proofs.Common.{◌≡◌, map, take}
use Rattle.track_word.specs.Tracks.{place}
use Rattle.track_word.proofs.lists.places_of.Given as goal

abbrev pub invariant-loop-track : goal.invariant-loop-track
invariant-loop-track l = l.places.items ≡ map (place l.tracks) (take l.track-index l.some)
