-- Marks at states from which no acceptance is possible, and the list of the nonzero cells.
use Rattle.std.specs.Prelude.{◌≡◌, ℕ, ◌<◌, ◌≤◌, ◌⊎◌, List, length, slice_index}
use Rattle.std.specs.Int.{bit_at}
use Rattle.auto_core.specs.Automaton.{Automaton}
use Rattle.auto_search.specs.declared.marks.Marks.{Marks}
use Rattle.auto_search.specs.declared.ray.TrackRay.{TrackRay}
use Rattle.auto_search.specs.Search.{Remembers}

-- a cell is in a list from an index on
abbrev pub HasCellFrom : List ℕ → ℕ → ℕ → Type 0
HasCellFrom cells from cell = (i : ℕ) × (from ≤ i) × (i < length cells) × (slice_index cells i ≡ cell)

-- a cell is in a list before an index
abbrev pub HasCellBelow : List ℕ → ℕ → ℕ → Type 0
HasCellBelow cells end cell = (i : ℕ) × (i < end) × (slice_index cells i ≡ cell)

-- each nonzero cell is among the first of a list, unless the list is full
pub record IsListed (failed cells : List ℕ) (listed : ℕ) : Type 0 where
  pub inside : listed ≤ length cells
  pub within : (i : ℕ) → i < listed → slice_index cells i < length failed
  pub each : listed < length cells → (cell : ℕ) → 0 < slice_index failed cell → HasCellBelow cells listed cell

-- each nonzero cell is listed, unless the list is full
abbrev pub HasListedMarks : Marks → Type 0
HasListedMarks marks = IsListed marks.failed.items marks.cells.items marks.listed

-- the cell is listed, unless the list is full
abbrev pub HasListed : Marks → ℕ → Type 0
HasListed marks cell = marks.listed < length marks.cells.items → HasCellBelow marks.cells.items marks.listed cell

-- one more mark
pub record IsMarked (old new : List ℕ) (cell slot : ℕ) : Type 0 where
  pub marks : (k i : ℕ) → bit_at (slice_index new k) i ≡ 1
      → (bit_at (slice_index old k) i ≡ 1) ⊎ ((k ≡ cell) × (i ≡ slot))

-- a marked state cannot reach acceptance
pub record Serves (a : Automaton) (ray : TrackRay) (marks : Marks) : Type 0 where
  pub remembers : Remembers a ray marks.failed.items
  pub listed : HasListedMarks marks

-- the number of cells is unchanged
pub record SameRoom (old new : Marks) : Type 0 where
  pub failed_kept : length new.failed.items ≡ length old.failed.items
  pub cells_kept : length new.cells.items ≡ length old.cells.items

-- no marks
pub record IsClear (marks : Marks) : Type 0 where
  pub none : (cell : ℕ) → slice_index marks.failed.items cell ≡ 0
  pub unlisted : marks.listed ≡ 0
