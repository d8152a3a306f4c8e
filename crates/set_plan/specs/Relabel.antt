-- A formula with other numbers for its sets.
use Rattle.std.specs.Prelude.{ℕ}
use Rattle.lin_formula.specs.Tree.{Tree, Lin, Value, Among, Not, And, Or, Ex}

abbrev pub relabel : (ℕ → ℕ) → Tree → Tree
relabel name (Lin terms rel bound) = Lin terms rel bound
relabel name (Value x n) = Value x n
relabel name (Among set vars) = Among (name set) vars
relabel name (Not f) = Not (relabel name f)
relabel name (And f g) = And (relabel name f) (relabel name g)
relabel name (Or f g) = Or (relabel name f) (relabel name g)
relabel name (Ex x f) = Ex x (relabel name f)
