-- The tables of a search between its calls.
use Rattle.std.specs.Prelude.{◌≡◌, ℕ, ◌+◌, ◌*◌, length, slice_index}
use Rattle.auto_search.specs.declared.count.Room.{Room}
use Rattle.auto_search.specs.Marks.{IsClear}

-- tables for this many states, without marks and entries
pub record IsRoom (states : ℕ) (room : Room) : Type 0 where
  pub clear : IsClear room.marks
  pub none : (k : ℕ) → slice_index room.met.times.items k ≡ 0
  pub times_size : length room.met.times.items ≡ states * 9
  pub states_size : length room.met.states.items ≡ 9 + states * 18
  pub slots_size : length room.met.slots.items ≡ 9 + states * 18
