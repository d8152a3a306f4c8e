-- In a sound position the steps are those of the options together.
use Rattle.std.proofs.Common.{◌≡◌, ◌≢◌, ◌↔◌, ℕ, suc, ◌+◌, ◌-◌, Bool, true, false, List, [], ◌∷◌, ℤ, pos, Option, Some, None, refl, subst, sym, ap, ◌∙◌, arith, eq-eqb}
use Rattle.std.specs.Prelude.{◌==◌, slice_get, IsSomeAnd}
use Rattle.std.specs.Int.{bit_at}
use Rattle.std.proofs.lemmas.Bool.Decides.{nat_tests}
use Rattle.game_rules.specs.declared.men.Kind.TheVariants.{King}
use Rattle.game_rules.specs.declared.men.Man.{Man}
use Rattle.game_rules.specs.declared.men.Place.{Place}
use Rattle.game_rules.specs.declared.men.Place.TheVariants.{Gone, At}
use Rattle.game_rules.specs.declared.men.Square.{Square}
use Rattle.game_rules.specs.Game.{Attacked, Bears, InCheck, IsEmptySquare, IsLiveAnd, IsMaskOf, Position, Sound, StandsOn, Step, other, place_square}
use Rattle.game_laws.proofs.SoundLemmas.{any_at, other_other}
use Rattle.rule_formula.specs.declared.opt.Opt.{Opt}
use Rattle.rule_formula.specs.Laws.{SomeOptionLeads, StepsTo}
use Rattle.rule_formula.specs.Placed.{is_live, men_from, place_at, placed}
use Rattle.game_laws.specs.Stock.{stock_man}
use Rattle.rule_formula.specs.Trees.{man_square}
use Rattle.rule_formula.specs.Meaning.{IsOptionOf, TakesOption}
use Rattle.rule_formula.proofs.BearLemmas.{man_placed}
use Rattle.rule_formula.proofs.ListTheorem.{options_are}
use Rattle.rule_formula.proofs.MoveLemmas.{same_man}
use Rattle.rule_formula.proofs.OptionTheorem.{IsNoKing, goes_capture, option_of_step}
use Rattle.mask_sets.proofs.Men.{all_men}

pub square_or : Option Square → Square
square_or None = record { x = pos 0; y = pos 0 }
square_or (Some z) = z

-- the squares of the live men
pub squares_of : Position → ℕ → Square
squares_of p k = square_or (man_square (stock_man p.men k))

men_self : (n : ℕ) (ms : List Man) (live : ℕ → Bool) (f : ℕ → Square)
    → ((i k : ℕ) (m : Man) → k ≡ n + i → slice_get ms i ≡ Some m → place_at (live k) (f k) ≡ m.place)
    → men_from n ms live f ≡ ms
men_self n [] live f h = refl
men_self n (m ∷ ms) live f h =
    ap (λ a. record m { place = a } ∷ men_from (suc n) ms live f) (h 0 n m (omega arith) refl)
    ∙ ap (λ xs. m ∷ xs) (men_self (suc n) ms live f (λ i k b e is. h (suc i) k b (omega (arith, e)) is))

pub live_at : (mask i k : ℕ) → k ≡ 1 + i → bit_at mask i ≡ 1 → is_live mask k ≡ true
live_at mask i k e bit =
    let there : k - 1 ≡ i = omega (arith, e) in
    subst (λ j. (bit_at mask j == 1) ≡ true) (sym there) (eq-eqb (bit_at mask i) 1 bit)

off_test : (a : ℕ) → (a ≡ 1 → ⊥) → (a == 1) ≡ false
off_test a ne = grind (arith, nat_tests)

gone_at : (mask i k : ℕ) → k ≡ 1 + i → (bit_at mask i ≡ 1 → ⊥) → is_live mask k ≡ false
gone_at mask i k e ne =
    let there : k - 1 ≡ i = omega (arith, e) in
    subst (λ j. (bit_at mask j == 1) ≡ false) (sym there) (off_test (bit_at mask i) ne)

place_self : (b : Bool) (q : Place) (z : Square) → (q ≡ Gone → b ≡ false) → (q ≢ Gone → b ≡ true)
    → ((x y : ℤ) → q ≡ At x y → z ≡ record { x = x; y = y }) → place_at b z ≡ q
place_self true Gone z off on here = let e : true ≡ false = off refl in absurd (cc)
place_self false Gone z off on here = refl
place_self true (At x y) z off on here = ap (λ (a : Square). At a.x a.y) (here x y refl)
place_self false (At x y) z off on here = let e : false ≡ true = on (λ w. cc) in absurd (cc)

pub square_self : (p : Position) (k : ℕ) (m : Man) (x y : ℤ) → stock_man p.men k ≡ Some m → m.place ≡ At x y → squares_of p k ≡ record { x = x; y = y }
unfolding squares_of square_or
square_self p k m x y is at =
    ap (λ o. square_or (man_square o)) is ∙ ap (λ q. square_or (place_square q)) at

-- the square of a man who stands
pub square_stands : (p : Position) (k : ℕ) (m : Man) (z : Square) → stock_man p.men k ≡ Some m → StandsOn m z → squares_of p k ≡ z
unfolding squares_of square_or
square_stands p k m z is stands = ap (λ o. square_or (man_square o)) is ∙ ap square_or stands

in_stock : (p : Position) (i k : ℕ) (m : Man) → k ≡ 1 + i → slice_get p.men i ≡ Some m → stock_man p.men k ≡ Some m
in_stock p i k m e is =
    let there : suc i ≡ k = omega (arith, e) in subst (λ j. stock_man p.men j ≡ Some m) there is

-- a position is that of its own men on their squares
pub self_placed : {p : Position} {mask : ℕ} → IsMaskOf p mask → placed p.men (is_live mask) p.turn (squares_of p) ≡ p
self_placed {p} {mask} h =
    let men : men_from 1 p.men (is_live mask) (squares_of p) ≡ p.men = men_self 1 p.men (is_live mask) (squares_of p)
    (λ i k m e is.
    let live = h.live i m is in
    place_self (is_live mask k) m.place (squares_of p k)
    (λ gone. gone_at mask i k e (λ bit. live.0 bit gone))
    (λ there. live_at mask i k e (live.1 there))
    (λ x y at. square_self p k m x y (in_stock p i k m e is) at))
    in
    ap (λ xs. record { men = xs; turn = p.turn }) men

-- in a sound position no step takes a king
pub no_king_taken : {p : Position} {i : ℕ} {z : Square} {q : Position} → Sound p → Step p i z q → IsNoKing p (other p.turn) z
no_king_taken {p} {i} {z} sound step k m is enemy stands king =
    let full : IsEmptySquare p z → ⊥ = λ empty. (all_men p (λ m. StandsOn m z → ⊥)).0 empty k m is stands in
    let bears : Bears p step.man z = goes_capture step.man.kind p step.man z full step.goes in
    let attacked : Attacked p (other (other p.turn)) z = any_at p (λ m. (m.side ≡ other (other p.turn)) × Bears p m z) i step.man step.is_man (step.his_turn ∙ sym (other_other p.turn), bears) in
    let live : IsLiveAnd m (Attacked p (other (other p.turn))) = subst (λ o. IsSomeAnd o (Attacked p (other (other p.turn)))) (sym stands) attacked in
    let check : InCheck p (other p.turn) = any_at p (λ m. (m.side ≡ other p.turn) × (m.kind ≡ King) × IsLiveAnd m (Attacked p (other (other p.turn)))) k m is (enemy, king, live) in
    sound.other_safe check

side_of_option : (p : Position) {mask : ℕ} (f : ℕ → Square) {q : Position} {o : Opt} (w : IsOptionOf p.men mask o)
    → TakesOption o (placed p.men (is_live mask) p.turn f) q → w.man.side ≡ p.turn
side_of_option p {mask} f {o} w takes =
    let same : takes.steps.step.man ≡ man_placed (is_live mask) f o.man w.man = same_man p.men (is_live mask) p.turn f o.man w.man takes.steps.step.man w.is.is_man takes.steps.step.is_man in
    sym (ap (λ (a : Man). a.side) same) ∙ takes.steps.step.his_turn

option_in : {p : Position} {mask i : ℕ} {z : Square} {q : Position} → Sound p → IsMaskOf p mask → Step p i z q → SomeOptionLeads mask p q
option_in {p} {mask} {i} {z} {q} sound is step =
    let own_place : Position = placed p.men (is_live mask) p.turn (squares_of p) in
    let same : own_place ≡ p = self_placed is in
    let kings : IsNoKing own_place (other p.turn) z = subst (λ x. IsNoKing x (other p.turn) z) (sym same) (no_king_taken sound step) in
    let there : Step own_place i z q = subst (λ x. Step x i z q) (sym same) step in
    let (o, of_man, is_option, takes) = option_of_step p.men mask p.turn (squares_of p) kings there in
    let turned : is_option.man.side ≡ p.turn = side_of_option p (squares_of p) is_option takes in
    (o, (options_are p.men mask p.turn o).1 (is_option, turned), subst (λ x. TakesOption o x q) same takes)

pub steps_by_options : (p q : Position) (mask : ℕ) → Sound p → IsMaskOf p mask → StepsTo p q ↔ SomeOptionLeads mask p q
steps_by_options p q mask sound is = (
  λ (i, z, step). option_in sound is step,
  λ (o, listed, takes). (o.man, takes.steps.to, takes.steps.step),
)
