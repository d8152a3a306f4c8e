-- Changes of bytes.
use Rattle.std.specs.Prelude.{ℕ, ◌<◌, ◌≤◌, List, [], ◌∷◌, ◌++◌, length, take, slice_set}
use Rattle.run_trials.specs.declared.change.Change.{Change}
use Rattle.run_trials.specs.declared.change.Change.TheVariants.{Cut, Byte, Append}

-- the change can be made to the bytes
abbrev pub Fits : Change → List ℕ → Type 0
Fits (Cut size) bytes = size ≤ length bytes
Fits (Byte at value) bytes = at < length bytes
Fits (Append value) bytes = Unit {0}

-- the bytes after the change
abbrev pub changed : Change → List ℕ → List ℕ
changed (Cut size) bytes = take size bytes
changed (Byte at value) bytes = slice_set bytes at value
changed (Append value) bytes = bytes ++ value ∷ []
