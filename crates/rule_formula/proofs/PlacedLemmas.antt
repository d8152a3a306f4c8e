-- The men of a position that is placed.
use Rattle.std.proofs.Common.{◌≡◌, ℕ, zero, suc, ◌+◌, Bool, true, false, List, [], ◌∷◌, length, Some, None, refl, subst, ap, arith}
use Rattle.std.specs.Prelude.{if◌then◌else◌, slice_get}
use Rattle.game_rules.specs.declared.men.Side.{Side}
use Rattle.game_rules.specs.declared.men.Man.{Man}
use Rattle.game_rules.specs.declared.men.Square.{Square}
use Rattle.game_rules.specs.Game.{man_at, place_square}
use Rattle.game_laws.proofs.StockLemmas.{stock_man-men}
use Rattle.rule_formula.specs.Placed.{men_from, place_at, placed}
use Rattle.game_laws.specs.Stock.{stock_man}

get_from : (n i k : ℕ) (ms : List Man) (live : ℕ → Bool) (f : ℕ → Square) (m : Man) → k ≡ n + i → slice_get ms i ≡ Some m
    → slice_get (men_from n ms live f) i ≡ Some (record m { place = place_at (live k) (f k) })
get_from n i k [] live f m e is = absurd (cc)
get_from n zero k (x ∷ ms) live f m e is =
    let here : n ≡ k = omega arith in
    let same : x ≡ m = cc in
    subst (λ j. slice_get (men_from n (x ∷ ms) live f) zero ≡ Some (record m { place = place_at (live j) (f j) })) here
    (ap (λ (a : Man). Some (record a { place = place_at (live n) (f n) })) same)
get_from n (suc i) k (x ∷ ms) live f m e is = get_from (suc n) i k ms live f m (omega arith) is

-- what a man of the stock is in the position
pub placed_man : (stock : List Man) (live : ℕ → Bool) (turn : Side) (f : ℕ → Square) (k : ℕ) (m : Man) → stock_man stock k ≡ Some m
    → man_at (placed stock live turn f) k ≡ Some (record m { place = place_at (live k) (f k) })
placed_man stock live turn f zero m is = absurd (cc)
placed_man stock live turn f (suc i) m is = get_from 1 i (suc i) stock live f m (omega arith) is

pub record IsOfStock (stock : List Man) (live : ℕ → Bool) (f : ℕ → Square) (k : ℕ) (q : Man) : Type 0 where
  pub man : Man
  pub is_man : stock_man stock k ≡ Some man
  pub is : q ≡ record man { place = place_at (live k) (f k) }

get_back : (n i k : ℕ) (ms : List Man) (live : ℕ → Bool) (f : ℕ → Square) (q : Man) → k ≡ n + i → slice_get (men_from n ms live f) i ≡ Some q
    → (m : Man) × (slice_get ms i ≡ Some m) × (q ≡ record m { place = place_at (live k) (f k) })
get_back n i k [] live f q e is = absurd (cc)
get_back n zero k (x ∷ ms) live f q e is =
    let here : n ≡ k = omega arith in
    let is_q : Some (record x { place = place_at (live n) (f n) }) ≡ Some q = is in
    let same : q ≡ record x { place = place_at (live n) (f n) } = cc in
    (x, refl, subst (λ j. q ≡ record x { place = place_at (live j) (f j) }) here same)
get_back n (suc i) k (x ∷ ms) live f q e is = get_back (suc n) i k ms live f q (omega arith) is

-- a man of the position is one of the stock
pub from_placed : (stock : List Man) (live : ℕ → Bool) (turn : Side) (f : ℕ → Square) (k : ℕ) (q : Man) → man_at (placed stock live turn f) k ≡ Some q → IsOfStock stock live f k q
from_placed stock live turn f zero q is = absurd (cc)
from_placed stock live turn f (suc i) q is =
    let w = get_back 1 i (suc i) stock live f q (omega arith) is in record { man = w.0; is_man = w.1; is = w.2 }

-- a live man of the stock stands on his square, and on no other
pub stands_placed : (b : Bool) (z y : Square) → place_square (place_at b z) ≡ Some y → (b ≡ true) × (z ≡ y)
stands_placed true z y h = let s : Some z ≡ Some y = h in (refl, cc)
stands_placed false z y h = absurd (cc)

pub length_placed : (n : ℕ) (stock : List Man) (live : ℕ → Bool) (f : ℕ → Square) → length (men_from n stock live f) ≡ length stock
length_placed n [] live f = refl
length_placed n (m ∷ ms) live f = ap suc (length_placed (suc n) ms live f)

pub ruleset numbers = (stock_man-men)
