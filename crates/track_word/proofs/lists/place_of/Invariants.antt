use Rattle.std.proofs.Common.{◌≡◌, ◌+◌, nat_eq, drop}
use Rattle.std.specs.List.{position_or_len}
use Rattle.track_word.proofs.lists.place_of.Given as goal

abbrev pub invariant-loop-index : goal.invariant-loop-index
invariant-loop-index l = position_or_len (λ other. nat_eq other.0 l.track.0) l.tracks ≡ l.index + position_or_len (λ other. nat_eq other.0 l.track.0) (drop l.index l.tracks)
