-- Lists of nodes, entry by entry.
use Rattle.std.specs.Prelude.{◌≡◌, ◌<◌, ℕ, List, length, slice_index}

-- a list of the same length, whose entries are related to the entries at the same index
pub record EachAnswers (R : ℕ → ℕ → Type 0) (nodes answers : List ℕ) : Type 0 where
  pub size : length answers ≡ length nodes
  pub each : (i : ℕ) → i < length nodes → R (slice_index nodes i) (slice_index answers i)
