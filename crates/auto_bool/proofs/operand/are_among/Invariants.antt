use Rattle.std.proofs.Common.{ℕ, ◌<◌, get_or, length}
use Rattle.track_word.specs.declared.tracks.Var.{Var}
use Rattle.track_word.specs.Tracks.{place}
use Rattle.auto_bool.proofs.operand.are_among.Given as goal

abbrev pub invariant-loop-track : goal.invariant-loop-track
invariant-loop-track l = (k : ℕ) (d : Var) → k < l.track-index → place l.all (get_or l.some k d) < length l.all
