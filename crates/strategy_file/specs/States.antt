-- The rows and flags of states, in the order in which they are read.
use Rattle.std.specs.Prelude.{◌≡◌, ℕ, ◌*◌, ◌^◌, ◌<◌, Bool, List, [], ◌∷◌, length, take, drop}
use Rattle.std.specs.List.{All}

-- an entry for each letter, each below the number of states
pub record AreEntries (tracks states : ℕ) (entries : List ℕ) : Type 0 where
  pub size : length entries ≡ 2 ^ tracks
  pub within : All (λ e. e < states) entries

-- each flag with its row, from rows of one width that are concatenated
abbrev pub states_in : ℕ → List Bool → List ℕ → List (Bool × List ℕ)
states_in width [] next = []
states_in width (b ∷ flags) next = (b, take width next) ∷ states_in width flags (drop width next)

-- `count` flags and rows, each entry below the number of states
pub record AreStates (tracks states count : ℕ) (flags : List Bool) (next : List ℕ) : Type 0 where
  pub flags_size : length flags ≡ count
  pub next_size : length next ≡ count * 2 ^ tracks
  pub within : All (λ e. e < states) next
