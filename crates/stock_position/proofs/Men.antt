-- Men by number, their places, and the live ones among them.
use Rattle.std.proofs.Common.{◌≡◌, ◌≢◌, ℕ, ◌<◌, ◌≤◌, length, Some, refl, sym, ap, ◌∙◌}
use Rattle.chess_game.specs.Unsoundness.{AreTwins}
use Rattle.chess_game.proofs.UnsoundnessLemmas.{within}
use Rattle.game_rules.specs.Game.{Position, StandsOn, man_at, place_square}
use Rattle.game_rules.specs.declared.men.Man.{Man}
use Rattle.game_rules.specs.declared.men.Place.{Place}
use Rattle.game_rules.specs.declared.men.Place.TheVariants.{Gone, At}
use Rattle.game_rules.specs.declared.men.Square.{Square}

-- the square of a live man
pub square_on : (a : Place) → a ≢ Gone → (z : Square) × (place_square a ≡ Some z)
square_on Gone live = absurd (live refl)
square_on (At x y) live = (record { x = x; y = y }, refl)

-- a square has one place
pub same_place : (a b : Place) (z : Square) → place_square a ≡ Some z → place_square b ≡ Some z → (a ≢ Gone) × (a ≡ b)
same_place Gone b z ha hb = absurd cc
same_place (At x y) Gone z ha hb = absurd cc
same_place (At x y) (At u v) z ha hb =
    let p : record { x = x; y = y } ≡ z = cc in
    let q : record { x = u; y = v } ≡ z = cc in
    let right : x ≡ u = ap (λ (s : Square). s.x) p ∙ sym (ap (λ (s : Square). s.x) q) in
    let up : y ≡ v = ap (λ (s : Square). s.y) p ∙ sym (ap (λ (s : Square). s.y) q) in
    (λ e. cc, λ i. At (right i) (up i))

-- two men with one square are twins
pub twins_are : (p : Position) (i j : ℕ) (m n : Man) → man_at p i ≡ Some m → man_at p j ≡ Some n → m.place ≢ Gone → m.place ≡ n.place → AreTwins p i j
twins_are p i j m n is_m is_n live same =
    let square = square_on m.place live in
    let other : place_square n.place ≡ Some square.0 = ap place_square (sym same) ∙ square.1 in
    (square.0, rw is_m square.1, rw is_n other)

pub twins_place : (p : Position) (i j : ℕ) (m n : Man) → man_at p i ≡ Some m → man_at p j ≡ Some n → AreTwins p i j → (m.place ≢ Gone) × (m.place ≡ n.place)
twins_place p i j m n is_m is_n (z, a, b) =
    let first : StandsOn m z = rw is_m at a in
    let second : StandsOn n z = rw is_n at b in
    same_place m.place n.place z first second

-- a man who is not found has no number
pub twins_within : (p : Position) (i j : ℕ) → AreTwins p i j → (0 < i) × (i ≤ length p.men) × (0 < j) × (j ≤ length p.men)
twins_within p i j (z, a, b) =
    let first = within p i _ a in
    let second = within p j _ b in
    (first.0, first.1, second.0, second.1)
