-- Laws of the nodes of a diagram.
use Rattle.std.specs.Prelude.{◌≡◌, ◌<◌, ◌≤◌, ◌↔◌, ℕ, List, length}
use Rattle.std.specs.Int.{bit_at}
use Rattle.limits.specs.declared.numbers.TheConstants.{MOST_TRACKS}
use Rattle.letter_diagram.specs.declared.diagrams.Shape.{Shape}
use Rattle.letter_diagram.specs.Diagram.{map_at, top_track, HaveOneMap}
use Rattle.letter_diagram.specs.Merged.{IgnoresTrack}

-- two nodes are equal if and only if their maps are equal
abbrev pub HasEachMapOnce : List Shape → Type 0
HasEachMapOnce shapes = (a b : ℕ) → a < length shapes → b < length shapes → (a ≡ b) ↔ HaveOneMap shapes a b

-- two letters have equal bits on the tracks from a bound on
abbrev pub AgreeFrom : ℕ → ℕ → ℕ → Type 0
AgreeFrom bound x y = (track : ℕ) → bound ≤ track → track < MOST_TRACKS → bit_at x track ≡ bit_at y track

-- each map has equal values at two letters that agree on the tracks from its top track on
abbrev pub LookFromTheirTops : List Shape → Type 0
LookFromTheirTops shapes =
    (node x y : ℕ) → node < length shapes → AgreeFrom (top_track shapes node) x y
    → map_at shapes node x ≡ map_at shapes node y

-- each map that is not constant depends on its top track
abbrev pub LookAtTheirTops : List Shape → Type 0
LookAtTheirTops shapes =
    (node : ℕ) → node < length shapes → top_track shapes node < MOST_TRACKS
    → ¬ IgnoresTrack shapes node (top_track shapes node)
