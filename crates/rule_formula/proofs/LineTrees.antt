-- Which atom a line has that is no row and no column.
use Rattle.std.proofs.Common.{◌≡◌, ◌≢◌, ℕ, zero, suc, inl, inr, ℤ, pos, negsuc, neg_ℤ, Bool, true, false, List, [], ◌∷◌, refl, arith}
use Rattle.std.specs.Prelude.{◌==◌, if◌then◌else◌}
use Rattle.std.proofs.lemmas.Int.{ints}
use Rattle.std.proofs.lemmas.Bool.Decides.{eqb_tells, nat_tests}
use Rattle.lin_formula.specs.Tree.{Tree}
use Rattle.rule_formula.specs.declared.seats.Seat.{Seat}
use Rattle.track_word.specs.declared.atoms.Rel.TheVariants.{Eq}
use Rattle.rule_formula.specs.Trees.{difference, falling, leaping, line, line_atoms, rising, unless_same}

first_of : (m n : ℕ) (f g : Tree) → m ≡ n → (if m == n then f else g) ≡ f
first_of m n f g same = cases (m == n) (grind (arith, nat_tests))
  where
    cases : (b : Bool) → b ≡ true → (if b then f else g) ≡ f
    cases true e = refl
    cases false e = absurd (cc)

second_of : (m n : ℕ) (f g : Tree) → (m ≡ n → ⊥) → (if m == n then f else g) ≡ g
second_of m n f g off = cases (m == n) (elim (eqb_tells m n) [ inl e ↦ absurd (off e.1) | inr e ↦ e.0 ])
  where
    cases : (b : Bool) → b ≡ false → (if b then f else g) ≡ g
    cases true e = absurd (cc)
    cases false e = refl

pub line_rising : (dx dy : ℤ) (a b : Seat) → dx ≢ pos 0 → dy ≢ pos 0 → dx ≡ dy → line dx dy a b ≡ rising a b
line_rising (pos zero) dy a b right up same = absurd (right refl)
line_rising (pos (suc dx)) (pos zero) a b right up same = absurd (up refl)
line_rising (negsuc dx) (pos zero) a b right up same = absurd (up refl)
line_rising (pos (suc dx)) (pos (suc dy)) a b right up same = first_of dx dy (rising a b) (leaping (pos (suc dx)) (pos (suc dy)) a b) (omega (arith, ints, same))
line_rising (pos (suc dx)) (negsuc dy) a b right up same = absurd (omega (arith, ints, same))
line_rising (negsuc dx) (pos (suc dy)) a b right up same = absurd (omega (arith, ints, same))
line_rising (negsuc dx) (negsuc dy) a b right up same = first_of dx dy (rising a b) (leaping (negsuc dx) (negsuc dy) a b) (omega (arith, ints, same))

pub line_falling : (dx dy : ℤ) (a b : Seat) → dx ≢ pos 0 → dy ≢ pos 0 → dx ≡ neg_ℤ dy → line dx dy a b ≡ falling a b
line_falling (pos zero) dy a b right up same = absurd (right refl)
line_falling (pos (suc dx)) (pos zero) a b right up same = absurd (up refl)
line_falling (negsuc dx) (pos zero) a b right up same = absurd (up refl)
line_falling (pos (suc dx)) (pos (suc dy)) a b right up same = absurd (omega (arith, ints, same))
line_falling (pos (suc dx)) (negsuc dy) a b right up same = first_of dx dy (falling a b) (leaping (pos (suc dx)) (negsuc dy) a b) (omega (arith, ints, same))
line_falling (negsuc dx) (pos (suc dy)) a b right up same = first_of dx dy (falling a b) (leaping (negsuc dx) (pos (suc dy)) a b) (omega (arith, ints, same))
line_falling (negsuc dx) (negsuc dy) a b right up same = absurd (omega (arith, ints, same))

pub line_leaping : (dx dy : ℤ) (a b : Seat) → dx ≢ pos 0 → dy ≢ pos 0 → dx ≢ dy → dx ≢ neg_ℤ dy → line dx dy a b ≡ leaping dx dy a b
line_leaping (pos zero) dy a b right up other opposite = absurd (right refl)
line_leaping (pos (suc dx)) (pos zero) a b right up other opposite = absurd (up refl)
line_leaping (negsuc dx) (pos zero) a b right up other opposite = absurd (up refl)
line_leaping (pos (suc dx)) (pos (suc dy)) a b right up other opposite = second_of dx dy (rising a b) (leaping (pos (suc dx)) (pos (suc dy)) a b) (λ e. other (omega (arith, ints, e)))
line_leaping (pos (suc dx)) (negsuc dy) a b right up other opposite = second_of dx dy (falling a b) (leaping (pos (suc dx)) (negsuc dy) a b) (λ e. opposite (omega (arith, ints, e)))
line_leaping (negsuc dx) (pos (suc dy)) a b right up other opposite = second_of dx dy (falling a b) (leaping (negsuc dx) (pos (suc dy)) a b) (λ e. opposite (omega (arith, ints, e)))
line_leaping (negsuc dx) (negsuc dy) a b right up other opposite = second_of dx dy (rising a b) (leaping (negsuc dx) (negsuc dy) a b) (λ e. other (omega (arith, ints, e)))

pub either_tree : (P : Tree → Type 0) (b : Bool) (f g : Tree) → P f → P g → P (if b then f else g)
either_tree P true f g h k = h
either_tree P false f g h k = k

moves_up : (n : ℕ) → pos (suc n) ≢ pos 0
moves_up n e = omega (arith, ints, e)

moves_down : (n : ℕ) → negsuc n ≢ pos 0
moves_down n e = omega (arith, ints, e)

-- what holds of each atom that a line may have
pub record HoldsOfLines (P : Tree → Type 0) (dx dy : ℤ) (a b : Seat) : Type 0 where
  pub column : dx ≡ pos 0 → P (difference b.x a.x Eq (pos 0))
  pub row : dy ≡ pos 0 → P (difference b.y a.y Eq (pos 0))
  pub slanting : dx ≢ pos 0 → dy ≢ pos 0 → P (rising a b) × P (falling a b) × P (leaping dx dy a b)

-- holds of the line
pub line_holds : (P : Tree → Type 0) (dx dy : ℤ) (a b : Seat) → HoldsOfLines P dx dy a b → P (line dx dy a b)
line_holds P (pos zero) dy a b h = h.column refl
line_holds P (pos (suc dx)) (pos zero) a b h = h.row refl
line_holds P (negsuc dx) (pos zero) a b h = h.row refl
line_holds P (pos (suc dx)) (pos (suc dy)) a b h =
    let w = h.slanting (moves_up dx) (moves_up dy) in either_tree P (dx == dy) (rising a b) (leaping (pos (suc dx)) (pos (suc dy)) a b) w.0 w.2
line_holds P (pos (suc dx)) (negsuc dy) a b h =
    let w = h.slanting (moves_up dx) (moves_down dy) in either_tree P (dx == dy) (falling a b) (leaping (pos (suc dx)) (negsuc dy) a b) w.1 w.2
line_holds P (negsuc dx) (pos (suc dy)) a b h =
    let w = h.slanting (moves_down dx) (moves_up dy) in either_tree P (dx == dy) (falling a b) (leaping (negsuc dx) (pos (suc dy)) a b) w.1 w.2
line_holds P (negsuc dx) (negsuc dy) a b h =
    let w = h.slanting (moves_down dx) (moves_down dy) in either_tree P (dx == dy) (rising a b) (leaping (negsuc dx) (negsuc dy) a b) w.0 w.2

-- the same of its list, in which an atom is left out
pub record HoldsOfLists (Q : List Tree → Type 0) (dx dy : ℤ) (a b : Seat) : Type 0 where
  pub column : dx ≡ pos 0 → Q (unless_same b.x a.x (difference b.x a.x Eq (pos 0)))
  pub row : dx ≢ pos 0 → dy ≡ pos 0 → Q (unless_same b.y a.y (difference b.y a.y Eq (pos 0)))
  pub slanting : dx ≢ pos 0 → dy ≢ pos 0 → Q (line dx dy a b ∷ [])

pub line_atoms_hold : (Q : List Tree → Type 0) (dx dy : ℤ) (a b : Seat) → HoldsOfLists Q dx dy a b → Q (line_atoms dx dy a b)
line_atoms_hold Q (pos zero) dy a b h = h.column refl
line_atoms_hold Q (pos (suc dx)) (pos zero) a b h = h.row (moves_up dx) refl
line_atoms_hold Q (negsuc dx) (pos zero) a b h = h.row (moves_down dx) refl
line_atoms_hold Q (pos (suc dx)) (pos (suc dy)) a b h = h.slanting (moves_up dx) (moves_up dy)
line_atoms_hold Q (pos (suc dx)) (negsuc dy) a b h = h.slanting (moves_up dx) (moves_down dy)
line_atoms_hold Q (negsuc dx) (pos (suc dy)) a b h = h.slanting (moves_down dx) (moves_up dy)
line_atoms_hold Q (negsuc dx) (negsuc dy) a b h = h.slanting (moves_down dx) (moves_down dy)

pub ruleset lines = (line_rising, line_falling, line_leaping)
