-- The nodes and the flags of some states, in order.
use Rattle.std.specs.Prelude.{◌≡◌, ℕ, ◌<◌, Bool, false, List, length, slice_index, slice_index_or}
use Rattle.auto_core.specs.Automaton.{Automaton, is_final}

-- the nodes of the states in an order
pub record ArePicked (rows order picked : List ℕ) : Type 0 where
  pub size : length picked ≡ length order
  pub at : (place : ℕ) → place < length order → slice_index picked place ≡ slice_index rows (slice_index order place)

-- the flags of the states in an order
pub record AreFlags (a : Automaton) (order : List ℕ) (flags : List Bool) : Type 0 where
  pub size : length flags ≡ length order
  pub at : (place : ℕ) → place < length order → slice_index_or flags place false ≡ is_final a (slice_index order place)
