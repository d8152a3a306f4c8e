-- The values of the two variables that are quantified.
use Rattle.std.proofs.Common.{◌≡◌, ◌≢◌, ◌↔◌, ℕ, zero, suc, ◌+◌, ◌-◌, ◌*◌, ◌<◌, ◌≤◌, ℤ, pos, negsuc, ◌+ℤ◌, ◌*ℤ◌, Bool, true, false, List, [], ◌∷◌, length, refl, subst, sym, ap, ◌∙◌, arith}
use Rattle.std.proofs.lemmas.Int.{ints}
use Rattle.std.proofs.lemmas.Bool.Decides.{nat_tests}
use Rattle.game_rules.specs.declared.men.Side.{Side}
use Rattle.game_rules.specs.declared.men.Man.{Man}
use Rattle.game_rules.specs.declared.men.Square.{Square}
use Rattle.track_word.specs.declared.tracks.Var.{Var}
use Rattle.lin_formula.specs.Tree.{Tree}
use Rattle.lin_formula.specs.Holds.{Holds, Sets, with_value}
use Rattle.track_word.specs.Tracks.{Values}
use Rattle.game_rules.specs.declared.men.Ray.{Ray}
use Rattle.rule_formula.proofs.FormulaLemmas.{own_apart}
use Rattle.rule_formula.proofs.RayLemmas.{LiesOn, square_at}
use Rattle.rule_formula.specs.Placed.{men_from, place_at, placed}
use Rattle.rule_formula.specs.Seats.{at, elsewhere, new_seat, own, spare, squares, swept, var}
use Rattle.rule_formula.specs.Trees.{Suits, ex_swept}

-- the values with another one for x, where the ray sweeps it
abbrev pub swept_value : ℤ → Values → Var → ℤ → Values
swept_value (pos zero) v x n = v
swept_value (pos (suc d)) v x n = with_value v x n
swept_value (negsuc d) v x n = with_value v x n

pub ex_swept_holds : (d : ℤ) (x : Var) (f : Tree) (e : Sets) (v : Values) → Holds (ex_swept d x f) e v ↔ ((n : ℤ) × Holds f e (swept_value d v x n))
ex_swept_holds (pos zero) x f e v = (λ h. (pos 0, h), λ h. h.1)
ex_swept_holds (pos (suc d)) x f e v = (λ h. h, λ h. h)
ex_swept_holds (negsuc d) x f e v = (λ h. h, λ h. h)

pub value_other : (v : Values) (x : Var) (n : ℤ) (y : ℕ) → y ≢ x.0 → with_value v x n y ≡ v y
value_other v x n y ne = grind (arith, nat_tests)

pub value_same : (v : Values) (x : Var) (n : ℤ) (y : ℕ) → y ≡ x.0 → with_value v x n y ≡ n
value_same v x n y e = grind (arith, nat_tests)

swept_other : (d : ℤ) (v : Values) (x : Var) (n : ℤ) (y : ℕ) → y ≢ x.0 → swept_value d v x n y ≡ v y
swept_other (pos zero) v x n y ne = refl
swept_other (pos (suc d)) v x n y ne = value_other v x n y ne
swept_other (negsuc d) v x n y ne = value_other v x n y ne

-- the values with the square in the two variables that are quantified
abbrev pub swept_values : Ray → Values → Square → Values
swept_values r v z = swept_value r.dy (swept_value r.dx v elsewhere.x z.x) elsewhere.y z.y

pub other_value : (r : Ray) (v : Values) (z : Square) (y : ℕ) → y < 16 → swept_values r v z y ≡ v y
other_value r v z y low =
    swept_other r.dy (swept_value r.dx v elsewhere.x z.x) elsewhere.y z.y y (omega arith) ∙ swept_other r.dx v elsewhere.x z.x y (omega arith)

-- the men's own variables keep their values
pub own_kept : (r : Ray) (v : Values) (z : Square) (k : ℕ) → 0 < k → k ≤ 8 → at (swept_values r v z) (own k) ≡ squares v k
own_kept r v z k low high =
    square_at (at (swept_values r v z) (own k)) (squares v k) (other_value r v z (2 * k - 2) (omega arith)) (other_value r v z (2 * k - 1) (omega arith))

spare_x : (d e : ℤ) (v : Values) (k : ℕ) (z : Square) (x : ℤ) → k < 16 → z.x ≡ x → (d ≡ pos 0 → v k ≡ x)
    → swept_value e (swept_value d v elsewhere.x z.x) elsewhere.y z.y (swept d (var k) elsewhere.x).0 ≡ x
spare_x (pos zero) e v k z x low is h = swept_other e v elsewhere.y z.y k (omega arith) ∙ h refl
spare_x (pos (suc d)) e v k z x low is h = swept_other e (with_value v elsewhere.x z.x) elsewhere.y z.y 16 (omega arith) ∙ value_same v elsewhere.x z.x 16 refl ∙ is
spare_x (negsuc d) e v k z x low is h = swept_other e (with_value v elsewhere.x z.x) elsewhere.y z.y 16 (omega arith) ∙ value_same v elsewhere.x z.x 16 refl ∙ is

spare_y : (d e : ℤ) (v : Values) (k : ℕ) (z : Square) (y : ℤ) → k < 16 → z.y ≡ y → (e ≡ pos 0 → v k ≡ y)
    → swept_value e (swept_value d v elsewhere.x z.x) elsewhere.y z.y (swept e (var k) elsewhere.y).0 ≡ y
spare_y d (pos zero) v k z y low is h = swept_other d v elsewhere.x z.x k (omega arith) ∙ h refl
spare_y d (pos (suc e)) v k z y low is h = value_same (swept_value d v elsewhere.x z.x) elsewhere.y z.y 17 refl ∙ is
spare_y d (negsuc e) v k z y low is h = value_same (swept_value d v elsewhere.x z.x) elsewhere.y z.y 17 refl ∙ is

-- the spare seat has the square, if that shares with the man's own what the ray leaves alone
pub spare_is : (r : Ray) (v : Values) (i : ℕ) (z : Square) → 0 < i → i ≤ 8 → (r.dx ≡ pos 0 → (squares v i).x ≡ z.x)
    → (r.dy ≡ pos 0 → (squares v i).y ≡ z.y) → at (swept_values r v z) (spare r i) ≡ z
spare_is r v i z low high across along =
    square_at (at (swept_values r v z) (spare r i)) z (spare_x r.dx r.dy v (2 * i - 2) z z.x (omega arith) refl across) (spare_y r.dx r.dy v (2 * i - 1) z z.y (omega arith) refl along)

swept_differs : (d : ℤ) (k n : ℕ) → k < n → (swept d (var k) (var n)).0 ≡ k → d ≡ pos 0
swept_differs (pos zero) k n low e = refl
swept_differs (pos (suc d)) k n low e = absurd (omega (arith, e))
swept_differs (negsuc d) k n low e = absurd (omega (arith, e))

-- the spare seat and the man's own agree only where the ray does not move
pub from_spare : (r : Ray) (i : ℕ) → 0 < i → i ≤ 8 → Suits r (spare r i) (own i)
from_spare r i low high =
    record {
      across = λ e. swept_differs r.dx (2 * i - 2) 16 (omega arith) (sym e);
      along = λ e. swept_differs r.dy (2 * i - 1) 17 (omega arith) (sym e);
    }

pub to_spare : (r : Ray) (i : ℕ) → 0 < i → i ≤ 8 → Suits r (own i) (spare r i)
to_spare r i low high =
    record {
      across = λ e. swept_differs r.dx (2 * i - 2) 16 (omega arith) e;
      along = λ e. swept_differs r.dy (2 * i - 1) 17 (omega arith) e;
    }

-- where man i goes suits his ray
pub new_suits : (r : Ray) (i t : ℕ) → 0 < i → i ≤ 8 → i ≢ t → Suits r (own i) (new_seat r i t)
new_suits r i zero low high ne = to_spare r i low high
new_suits r i (suc t) low high ne = own_apart i (suc t) r low (omega arith) ne

still : (a b d : ℤ) (t : ℕ) → b ≡ a +ℤ (pos t *ℤ d) → d ≡ pos 0 → b ≡ a
still a b d t h none = let k : b ≡ a +ℤ (pos t *ℤ pos 0) = subst (λ d. b ≡ a +ℤ (pos t *ℤ d)) none h in omega (arith, ints)

pub along_x : {r : Ray} {a b : Square} → LiesOn r a b → r.dx ≡ pos 0 → b.x ≡ a.x
along_x {r} {a} {b} w none = still a.x b.x r.dx w.distance w.steps.right none

pub along_y : {r : Ray} {a b : Square} → LiesOn r a b → r.dy ≡ pos 0 → b.y ≡ a.y
along_y {r} {a} {b} w none = still a.y b.y r.dy w.distance w.steps.up none

place_same : (b : Bool) (y z : Square) → (b ≡ true → y ≡ z) → place_at b y ≡ place_at b z
place_same true y z h = ap (place_at true) (h refl)
place_same false y z h = refl

-- positions whose live men stand on the same squares
pub men_same : (n : ℕ) (stock : List Man) (live : ℕ → Bool) (f g : ℕ → Square) → ((k : ℕ) → n ≤ k → k < n + length stock → live k ≡ true → f k ≡ g k)
    → men_from n stock live f ≡ men_from n stock live g
men_same n [] live f g h = refl
men_same n (m ∷ ms) live f g h =
    ap (λ a. record m { place = a } ∷ men_from (suc n) ms live f) (place_same (live n) (f n) (g n) (λ on. h n (omega arith) (omega arith) on))
    ∙ ap (λ xs. record m { place = place_at (live n) (g n) } ∷ xs) (men_same (suc n) ms live f g (λ k low high on. h k (omega arith) (omega arith) on))

pub placed_same : (stock : List Man) (live : ℕ → Bool) (turn : Side) (f g : ℕ → Square)
    → ((k : ℕ) → 0 < k → k ≤ length stock → live k ≡ true → f k ≡ g k) → placed stock live turn f ≡ placed stock live turn g
placed_same stock live turn f g h =
    ap (λ xs. record { men = xs; turn = turn }) (men_same 1 stock live f g (λ k low high on. h k (omega arith) (omega arith) on))
