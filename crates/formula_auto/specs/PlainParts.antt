-- The greatest plain subformulas of a formula: these name no set, and have a step.
use Rattle.std.specs.Prelude.{ℕ, ◌-◌, Bool, ◌&&◌, if◌then◌else◌, nat_eq, nat_lt, nat_le, List, [], ◌∷◌, ◌++◌, length}
use Rattle.lin_formula.specs.Tree.{Tree, Lin, Value, Among, Not, And, Or, Ex, symbols, steps}

-- names no set, and has at least one step
abbrev pub is_plain : Tree → Bool
is_plain f = nat_eq (length (symbols f)) 0 && nat_lt 0 (length (steps f))

-- the formula itself if it is plain and ends within this many steps; the subformulas of its parts if it is not plain
abbrev pub plain_or : Tree → ℕ → List Tree → List Tree
plain_or f n parts = if is_plain f then (if nat_le (length (steps f)) n then f ∷ [] else []) else parts

-- the greatest plain subformulas that end within the first steps of a formula, in post-order
abbrev pub plain_within : Tree → ℕ → List Tree
plain_within (Lin terms rel bound) n = []
plain_within (Value x k) n = []
plain_within (Among set vars) n = []
plain_within (Not f) n = plain_or (Not f) n (plain_within f n)
plain_within (And f g) n = plain_or (And f g) n (plain_within f n ++ plain_within g (n - length (steps f)))
plain_within (Or f g) n = plain_or (Or f g) n (plain_within f n ++ plain_within g (n - length (steps f)))
plain_within (Ex x f) n = plain_or (Ex x f) n (plain_within f n)

-- all of them
abbrev pub plain_parts : Tree → List Tree
plain_parts f = plain_within f (length (steps f))
