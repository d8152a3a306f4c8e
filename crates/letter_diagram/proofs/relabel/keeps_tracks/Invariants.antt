use Rattle.std.proofs.Common.{◌≡◌, ◌<◌, ℕ, get_or}
use Rattle.letter_diagram.proofs.relabel.keeps_tracks.Given as goal

abbrev pub invariant-loop-own : goal.invariant-loop-own
invariant-loop-own l = (track : ℕ) → track < l.own → get_or l.tracks track 0 ≡ track
