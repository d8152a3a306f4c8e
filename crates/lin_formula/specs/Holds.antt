-- The truth of a formula for integers, given a set of tuples for each set symbol.
use Rattle.std.specs.Prelude.{◌≡◌, ◌⊎◌, ℕ, ◌==◌, if◌then◌else◌, List, ℤ}
use Rattle.track_word.specs.declared.tracks.Var.{Var}
use Rattle.track_word.specs.Tracks.{Values, values_at}
use Rattle.track_word.specs.Atom.{sum_of, Compares}
use Rattle.lin_formula.specs.Tree.{Tree, Lin, Value, Among, Not, And, Or, Ex}

-- the sets that the set symbols denote
abbrev pub Sets : Type 1
Sets = ℕ → List ℤ → Type 0

-- the values with the value of x replaced
abbrev pub with_value : Values → Var → ℤ → Values
with_value v x n y = if y == x.0 then n else v y

abbrev pub Holds : Tree → Sets → Values → Type 0
Holds (Lin terms rel bound) e v = Compares rel (sum_of terms v) bound
Holds (Value x n) e v = v x.0 ≡ n
Holds (Among set vars) e v = e set (values_at vars v)
Holds (Not f) e v = ¬ Holds f e v
Holds (And f g) e v = Holds f e v × Holds g e v
Holds (Or f g) e v = Holds f e v ⊎ Holds g e v
Holds (Ex x f) e v = (n : ℤ) × Holds f e (with_value v x n)
