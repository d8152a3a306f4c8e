-- What the code of a gap adds up.
use Rattle.std.proofs.Common.{◌≡◌, ℕ, zero, suc, List, [], ◌∷◌, ◌++◌, append_assoc, append-nil, pos, negsuc, Some, ℤ, ◌+ℤ◌, ◌-ℤ◌, ◌*ℤ◌, ap, ◌∙◌}
use Rattle.game_rules.specs.declared.men.Man.{Man}
use Rattle.game_rules.specs.declared.men.Place.TheVariants.{At}
use Rattle.game_rules.specs.Game.{place_square}
use Rattle.game_laws.specs.Stock.{stock_man}
use Rattle.track_word.specs.declared.tracks.Var.{Var}
use Rattle.line_formula.specs.Atoms.{with_term}
use Rattle.line_formula.specs.Small.{AreNear, IsNearSquare}

-- right times one difference and up times another
pub weighed-total : (right up a b c d x y whole : ℤ) {p q : ℤ} → x ≡ b -ℤ a → y ≡ d -ℤ c → p ≡ right *ℤ x → q ≡ up *ℤ y → whole ≡ p +ℤ q
    → whole ≡ (right *ℤ (b -ℤ a)) +ℤ (up *ℤ (d -ℤ c))
weighed-total right up a b c d x y whole {p} {q} is_x is_y is_p is_q is =
    is ∙ ap (λ z. z +ℤ q) (is_p ∙ ap (λ z. right *ℤ z) is_x) ∙ ap (λ z. (right *ℤ (b -ℤ a)) +ℤ z) (is_q ∙ ap (λ z. up *ℤ z) is_y)

pub ruleset gap_sums = (weighed-total)

pub near_square : (men : List Man) (k : ℕ) (m : Man) (x y : ℤ) → AreNear men → stock_man men k ≡ Some m → m.place ≡ At x y → IsNearSquare (record { x = x; y = y })
near_square men k m x y near at is = near k m (record { x = x; y = y }) at (ap place_square is)

-- a term, if its coefficient is not 0, and more after it
pub with_term-more : (xs : List (ℤ × Var)) (w : ℤ) (x : Var) (ts : List (ℤ × Var)) → (xs ++ with_term w x []) ++ ts ≡ xs ++ with_term w x ts
with_term-more xs (pos zero) x ts = ap (λ ys. ys ++ ts) (append-nil xs)
with_term-more xs (pos (suc n)) x ts = append_assoc xs ((pos (suc n), x) ∷ []) ts
with_term-more xs (negsuc n) x ts = append_assoc xs ((negsuc n, x) ∷ []) ts

pub ruleset term_lists = (with_term-more)
