-- The state limit of a step.
use Rattle.std.specs.Prelude.{◌≤◌, ℕ}

-- 1 to 16,777,216 states
abbrev pub IsBudget : ℕ → Type 0
IsBudget states = (1 ≤ states) × (states ≤ 16777216)
