-- The meaning of the answer to a formula.
use Rattle.std.specs.Prelude.{◌≡◌, ◌↔◌, ◌⊎◌, ℕ, ◌^◌, ◌≤◌, ℤ, List, unsigned_abs, codes}
use Rattle.track_word.specs.declared.tracks.Var.{Var}
use Rattle.lin_formula.specs.Tree.{Tree}
use Rattle.arith_desk.specs.Truth.{Asks, HoldsWith, IsNearest, IsTrueFormula, IsWide}
use Rattle.desk_formula.specs.Arith.{witness_line}

-- the line that says that there is a number, but none from -2^64 to 2^64
abbrev pub wide_line : List ℕ
wide_line = codes "true witness wide\n"

-- the line says that a formula is true
abbrev pub SaysTrue : List ℕ → Type 0
SaysTrue line =
    (line ≡ codes "true\n") ⊎ (line ≡ wide_line)
    ⊎ ((w : ℤ) × (unsigned_abs w ≤ 2 ^ 64) × (line ≡ witness_line w))

-- The formula says that there is a number. Of the numbers with which it is true this is the nearest to 0, and the
-- positive one of two at the same distance.
abbrev pub IsAskedFor : Tree → ℤ → Type 0
IsAskedFor f w = (x : Var) × (g : Tree) × Asks f x g × IsNearest (HoldsWith x g) w

-- the formula says that there is a number; it is true with some number, and with none from -2^64 to 2^64
abbrev pub IsAskedFar : Tree → Type 0
IsAskedFar f = (x : Var) × (g : Tree) × Asks f x g × IsWide (HoldsWith x g)

-- The line says that the formula is true if and only if it is true over all integers, and `false` if and only if it is
-- not. It has a number from -2^64 to 2^64 if and only if that is the number asked for, and it says that the number is
-- farther from 0 if and only if it is.
pub record Answers (f : Tree) (line : List ℕ) : Type 0 where
  pub holds : SaysTrue line ↔ IsTrueFormula f
  pub fails : (line ≡ codes "false\n") ↔ (¬ IsTrueFormula f)
  pub number : (w : ℤ) → unsigned_abs w ≤ 2 ^ 64 → (line ≡ witness_line w) ↔ IsAskedFor f w
  pub wide : (line ≡ wide_line) ↔ IsAskedFar f
