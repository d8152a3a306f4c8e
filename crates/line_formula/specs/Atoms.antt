-- Comparisons of places as formulas on the distances.
use Rattle.std.specs.Prelude.{ℕ, zero, suc, List, [], ◌∷◌, length, ℤ, pos, negsuc, ◌+ℤ◌, ◌-ℤ◌, ◌*ℤ◌}
use Rattle.game_rules.specs.declared.men.Square.{Square}
use Rattle.track_word.specs.declared.tracks.Var.{Var}
use Rattle.track_word.specs.declared.atoms.Rel.{Rel}
use Rattle.lin_formula.specs.Tree.{Tree, Lin, Value, And, Ex}
use Rattle.rule_formula.specs.Seats.{var}
use Rattle.line_formula.specs.declared.leg.Leg.{Leg}
use Rattle.line_formula.specs.declared.gap.Gap.{Gap}
use Rattle.line_formula.specs.Places.{step_x, step_y}

-- the variable of a sum's constant
abbrev pub held : Var
held = var 16

-- the weighted distance from the first square to the second, to the right and upwards
abbrev pub weighed : Gap → Square → Square → ℤ
weighed g a b = (g.right *ℤ (b.x -ℤ a.x)) +ℤ (g.up *ℤ (b.y -ℤ a.y))

-- the change of the gap by a step of the leg
abbrev pub weight : Gap → Leg → ℤ
weight g leg =
    (g.right *ℤ (step_x g.to leg -ℤ step_x g.from leg)) +ℤ (g.up *ℤ (step_y g.to leg -ℤ step_y g.from leg))

-- a term is omitted if its coefficient is 0
abbrev pub with_term : ℤ → Var → List (ℤ × Var) → List (ℤ × Var)
with_term (pos zero) x terms = terms
with_term (pos (suc n)) x terms = (pos (suc n), x) ∷ terms
with_term (negsuc n) x terms = (negsuc n, x) ∷ terms

-- the distances of the legs that change the gap, with their coefficients
abbrev pub terms : Gap → List Leg → List (ℤ × Var)
terms g [] = []
terms g (leg ∷ legs) = with_term (weight g leg) (var (length legs)) (terms g legs)

-- the sum of a constant and terms compared with the bound
abbrev pub sum_tree : ℤ → List (ℤ × Var) → Rel → ℤ → Tree
sum_tree constant terms rel bound = Ex held (And (Value held constant) (Lin ((pos 1, held) ∷ terms) rel bound))

-- the gap of the men's first squares
abbrev pub constant : (ℕ → Square) → Gap → ℤ
constant home g = weighed g (home g.from) (home g.to)

-- the weighted gap of the two men after the legs compared with the bound
abbrev pub gap_tree : (ℕ → Square) → List Leg → Gap → Rel → ℤ → Tree
gap_tree home legs g rel bound = sum_tree (constant home g) (terms g legs) rel bound
