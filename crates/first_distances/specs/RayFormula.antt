-- The formula of the distances at which a man's move along a ray leads into sets, one for each possible mask after the
-- move.
use Rattle.std.specs.Prelude.{ℕ, zero, suc, if◌then◌else◌, List, [], ◌∷◌, ◌++◌, length, ℤ, pos, negsuc, neg_ℤ, Option, Some, None}
use Rattle.track_word.specs.declared.tracks.Var.{Var}
use Rattle.track_word.specs.declared.atoms.Rel.TheVariants.{Le, Eq}
use Rattle.lin_formula.specs.Tree.{Tree, Lin, Value, And, Or, Ex}
use Rattle.game_rules.specs.Game.{Position, man_at}
use Rattle.game_rules.specs.declared.men.Ray.{Ray}
use Rattle.game_rules.specs.declared.men.Square.{Square}
use Rattle.mask_sets.specs.Stock.{mask_of}
use Rattle.rule_formula.specs.Fits.{mask_without}
use Rattle.rule_formula.specs.Options.{is_prey}
use Rattle.rule_formula.specs.Placed.{is_live, without}
use Rattle.rule_formula.specs.Seats.{own, var}
use Rattle.rule_formula.specs.Trees.{and_all, man_square, own_tree, ray_at}

-- the variables of the distance and of the square that the man comes from
abbrev pub t_var : Var
t_var = var 18

abbrev pub from_x : Var
from_x = var 20

abbrev pub from_y : Var
from_y = var 21

-- the formula, and if man k has a square, he stands on it
abbrev pub standing : ℕ → Option Square → Tree → Tree
standing k None f = f
standing k (Some z) f = Ex (own k).y (Ex (own k).x (And (And f (Value (own k).x z.x)) (Value (own k).y z.y)))

-- the formula, and each live man of the mask among the first n, except man i, stands on his square of the position
abbrev pub others_standing : Position → ℕ → ℕ → Tree → ℕ → Tree
others_standing p mask i f zero = f
others_standing p mask i f (suc n) =
    if without (is_live mask) i (suc n) then standing (suc n) (man_square (man_at p (suc n)))
    (others_standing p mask i f n) else others_standing p mask i f n

-- one more term, unless its coefficient is 0
abbrev pub with_term : ℤ → Var → List (ℤ × Var) → List (ℤ × Var)
with_term (pos zero) x terms = terms
with_term (pos (suc c)) x terms = (pos (suc c), x) ∷ terms
with_term (negsuc c) x terms = (negsuc c, x) ∷ terms

-- the first variable is d times the distance more than the second: x - d·t - u = 0
abbrev pub gone_from : Var → ℤ → Var → Tree
gone_from x d u = Lin ((pos 1, x) ∷ with_term (neg_ℤ d) t_var ((negsuc 0, u) ∷ [])) Eq (pos 0)

-- the distance is at least 1
abbrev pub begun : Tree
begun = Lin ((negsuc 0, t_var) ∷ []) Le (negsuc 0)

-- man i is t steps of the ray away from the square
abbrev pub way_atoms : ℕ → Ray → Square → List Tree
way_atoms i r z =
    gone_from (own i).x r.dx from_x ∷ Value from_x z.x ∷ gone_from (own i).y r.dy from_y ∷ Value from_y z.y ∷ begun ∷ []

-- the formula, and if man i has a square, he has gone from it along the ray
abbrev pub gone_along : ℕ → Ray → Option Square → Tree → Tree
gone_along i r None f = f
gone_along i r (Some z) f = Ex (own i).x (Ex (own i).y (Ex from_x (Ex from_y (and_all f (way_atoms i r z)))))

-- after man i has gone along the ray, the position with the live men of the mask is in the set of this number
abbrev pub line : Position → ℕ → Ray → ℕ → ℕ → Tree
line p i r mask number =
    gone_along i r (man_square (man_at p i))
    (others_standing p mask i (own_tree (length p.men) mask number) (length p.men))

-- the mask of the position without one of the first n men, for each live man of the other side among them except its
-- king
abbrev pub capture_masks_to : Position → ℕ → List ℕ
capture_masks_to p zero = []
capture_masks_to p (suc n) =
    if is_prey p.men (mask_of p) p.turn (suc n) then capture_masks_to p n ++ mask_without (mask_of p) (suc n)
    ∷ [] else capture_masks_to p n

abbrev pub capture_masks : Position → List ℕ
capture_masks p = capture_masks_to p (length p.men)

-- the possible masks after a move: that of the position, and those after a capture
abbrev pub masks_after : Position → List ℕ
masks_after p = mask_of p ∷ capture_masks p

-- the formula, or the line of one of the masks, whose sets are numbered consecutively
abbrev pub or_lines : Position → ℕ → Ray → Tree → ℕ → List ℕ → Tree
or_lines p i r f number [] = f
or_lines p i r f number (mask ∷ masks) = or_lines p i r (Or f (line p i r mask number)) (suc number) masks

-- the line of one of the possible masks after a move of man i along his ray n
unfoldable pub ray_formula : Position → ℕ → ℕ → Tree
ray_formula p i n =
    let r = ray_at p.men i n in or_lines p i r (line p i r (mask_of p) 0) 1 (capture_masks p)
