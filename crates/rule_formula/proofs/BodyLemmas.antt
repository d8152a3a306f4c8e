-- The formulas as the code makes them, part by part.
use Rattle.std.proofs.Common.{◌≡◌, ℕ, true, ap, sym, ◌∙◌}
use Rattle.lin_formula.specs.Tree.{Tree}
use Rattle.game_rules.specs.declared.men.Ray.{Ray}
use Rattle.rule_formula.specs.declared.atoms.Extent.{Extent}
use Rattle.rule_formula.specs.declared.atoms.Extent.TheVariants.{Onto, Before}
use Rattle.rule_formula.specs.declared.seats.Seat.{Seat}
use Rattle.rule_formula.specs.Placed.{is_live, without}
use Rattle.rule_formula.specs.Seats.{old_seats, own, seats_with, spare, vars_to}
use Rattle.rule_formula.specs.Trees.{and_all, bear_tree, clear, clear_as, image_body, on, ray_atoms}
use Rattle.rule_formula.proofs.ChainLemmas.{vars_to-without}
use Rattle.lin_formula.specs.Tree as tree

-- x, and b lies on the ray from a, and none of the other men stands on the way
abbrev Chain : ℕ → ℕ → ℕ → ℕ → Ray → Extent → Seat → Seat → Tree → Tree
Chain n mask i t r extent a b x = clear (and_all x (ray_atoms r a b)) (λ k. on r a b extent (own k)) (is_live mask) i t n

pub chain_is : (n mask i t : ℕ) (r : Ray) (extent : Extent) (a b from to : Seat) (x f h : Tree) → from ≡ a → to ≡ b → f ≡ x
    → h ≡ clear (and_all f (ray_atoms r from to)) (λ k. on r from to extent (own k)) (is_live mask) i t n
    → h ≡ clear (and_all x (ray_atoms r a b)) (λ k. on r a b extent (own k)) (is_live mask) i t n
chain_is n mask i t r extent a b from to x f h from_is to_is f_is h_is =
    h_is ∙ ap (Chain n mask i t r extent from to) f_is
    ∙ ap (λ c. Chain n mask i t r extent c to x) from_is
    ∙ ap (λ d. Chain n mask i t r extent a d x) to_is

pub image_body_is : (n mask i t : ℕ) (r : Ray) (s : ℕ) (from to : Seat) (f h : Tree) → from ≡ spare r i → to ≡ own i
    → f ≡ tree.Among s (vars_to (seats_with i from t to) (without (is_live mask) 0) n)
    → h ≡ clear (and_all f (ray_atoms r from to)) (λ k. on r from to Onto (own k)) (is_live mask) i t n → h ≡ image_body n mask i r t s
image_body_is n mask i t r s from to f h from_is to_is f_is h_is =
    let among = λ (a b : Seat). tree.Among s (vars_to (seats_with i a t b) (without (is_live mask) 0) n) in
    let f_old : f ≡ tree.Among s (vars_to (old_seats r i t) (is_live mask) n) =
    f_is ∙ ap (λ a. among a to) from_is ∙ ap (λ b. among (spare r i) b) to_is
    ∙ ap (λ xs. tree.Among s xs) (vars_to-without (old_seats r i t) (is_live mask) n) in
    chain_is n mask i t r Onto (spare r i) (own i) from to (tree.Among s (vars_to (old_seats r i t) (is_live mask) n)) f h from_is to_is f_old h_is

pub bear_tree_is : (n mask k g : ℕ) (r : Ray) (s : ℕ) (from to : Seat) (f h : Tree) → r.far ≡ true → from ≡ own k → to ≡ own g
    → f ≡ tree.Among s (vars_to own (is_live mask) n)
    → h ≡ clear (and_all f (ray_atoms r from to)) (λ l. on r from to Before (own l)) (is_live mask) k g n → h ≡ bear_tree n mask k r g s
bear_tree_is n mask k g r s from to f h far from_is to_is f_is h_is =
    let among = tree.Among s (vars_to own (is_live mask) n) in
    chain_is n mask k g r Before (own k) (own g) from to among f h from_is to_is f_is h_is
    ∙ ap (λ b. clear_as b (and_all among (ray_atoms r (own k) (own g))) (λ l. on r (own k) (own g) Before (own l)) (is_live mask) k g n) (sym far)
