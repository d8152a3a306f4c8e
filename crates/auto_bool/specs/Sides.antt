-- The rows of an automaton, read over more tracks than its own.
use Rattle.std.specs.Prelude.{◌≡◌, ℕ, ◌<◌, ◌^◌, List, length, map, Some, All}
use Rattle.std.specs.Int.{bit_at}
use Rattle.track_word.specs.declared.tracks.Var.{Var}
use Rattle.track_word.specs.Tracks.{place}
use Rattle.diagram_product.specs.Sided.{Reading}
use Rattle.auto_core.specs.Automaton.{Automaton, IsAutomaton}

-- a map that depends only on this many tracks has a value at each letter over them
pub record Reads (tracks : ℕ) (map value : ℕ → ℕ) : Type 0 where
  pub narrow : (a b : ℕ) → ((k : ℕ) → k < tracks → bit_at a k ≡ bit_at b k) → map a ≡ map b
  pub reads : (letter : ℕ) → letter < 2 ^ tracks → map letter ≡ value letter

-- each of the second list of tracks is among the first
pub record AreAmong (all some : List Var) : Type 0 where
  pub within : All (λ track. track < length all) (map (place all) some)

-- the nodes of an automaton are read at the indices of its tracks among all tracks
pub record IsSide (all : List Var) (a : Automaton) (reading : Reading) : Type 0 where
  pub valid : IsAutomaton a
  pub among : AreAmong all a.tracks
  pub reads : reading ≡ Some (record { shapes = a.shapes; tracks = map (place all) a.tracks })
