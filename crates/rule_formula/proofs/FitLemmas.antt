-- Positions of one game as positions of its stock.
use Rattle.std.proofs.Common.{◌≡◌, ◌≢◌, ℕ, suc, ◌+◌, ◌*◌, ◌-◌, ◌%◌, ◌/◌, ◌<◌, Bool, List, [], ◌∷◌, length, Some, inl, inr, refl, sym, ap, ◌∙◌, arith}
use Rattle.std.specs.Prelude.{◌==◌, if◌then◌else◌, slice_get}
use Rattle.game_rules.specs.declared.men.Side.{Side}
use Rattle.game_rules.specs.declared.men.Man.{Man}
use Rattle.game_rules.specs.declared.men.Place.{Place}
use Rattle.game_rules.specs.declared.men.Square.{Square}
use Rattle.game_rules.specs.Game.{Position}
use Rattle.track_word.specs.declared.tracks.Var.{Var}
use Rattle.track_word.specs.Tracks.{Values, values_at}
use Rattle.lin_formula.specs.Free.{IsOneOf}
use Rattle.game_laws.specs.Stock.{HasStock}
use Rattle.rule_formula.specs.Placed.{men_from, place_at, placed}
use Rattle.mask_sets.specs.Tuple.{tuple_of, tuple_to}
use Rattle.rule_formula.specs.Seats.{own, squares}
use Rattle.rule_formula.specs.Trees.{tracks_of}
use Rattle.rule_formula.proofs.FormulaLemmas.{tuple_is}
use Rattle.rule_formula.proofs.MoveTheorem.{if_other, if_same}
use Rattle.rule_formula.proofs.PlacedLemmas.{length_placed}
use Rattle.rule_formula.proofs.RayLemmas.{square_at}
use Rattle.rule_formula.proofs.SweptLemmas.{placed_same}
use Rattle.rule_formula.proofs.TracksTheorem.{seat_in}

-- values that put man k on the square f k
abbrev pub values_of : (ℕ → Square) → Values
values_of f i = if i % 2 == 0 then (f (i / 2 + 1)).x else (f (i / 2 + 1)).y

value_across : (f : ℕ → Square) (i k : ℕ) → 0 < k → i ≡ 2 * k - 2 → values_of f i ≡ (f k).x
value_across f i k low e =
    let even : i % 2 ≡ 0 = omega (arith, e, low) in
    let there : i / 2 + 1 ≡ k = omega (arith, e, low) in
    if_same (i % 2) 0 (f (i / 2 + 1)).x (f (i / 2 + 1)).y even ∙ ap (λ j. (f j).x) there

value_along : (f : ℕ → Square) (i k : ℕ) → 0 < k → i ≡ 2 * k - 1 → values_of f i ≡ (f k).y
value_along f i k low e =
    let odd : i % 2 ≢ 0 = λ even. omega (arith, e, low, even) in
    let there : i / 2 + 1 ≡ k = omega (arith, e, low) in
    if_other (i % 2) 0 (f (i / 2 + 1)).x (f (i / 2 + 1)).y odd ∙ ap (λ j. (f j).y) there

pub squares_values : (f : ℕ → Square) (k : ℕ) → 0 < k → squares (values_of f) k ≡ f k
squares_values f k low =
    square_at (squares (values_of f) k) (f k) (value_across f (2 * k - 2) k low refl) (value_along f (2 * k - 1) k low refl)

-- each position of a stock is that of some values
pub placed_values : (stock : List Man) (live : ℕ → Bool) (turn : Side) (f : ℕ → Square) → placed stock live turn (squares (values_of f)) ≡ placed stock live turn f
placed_values stock live turn f = placed_same stock live turn (squares (values_of f)) f (λ k low high on. squares_values f k low)

-- the tuple is that of the values of the live men's variables
pub tuple_placed : (stock : List Man) (live : ℕ → Bool) (turn : Side) (v : Values) → values_at (tracks_of stock live) v ≡ tuple_of (placed stock live turn (squares v))
tuple_placed stock live turn v =
    let n : length (men_from 1 stock live (squares v)) ≡ length stock = length_placed 1 stock live (squares v) in
    tuple_is stock live turn own v (length stock) (omega arith) ∙ ap (tuple_to (placed stock live turn (squares v))) (sym n)

pub values_same : (xs : List Var) (v w : Values) → values_at xs v ≡ values_at xs w → (z : Var) → IsOneOf z xs → v z.0 ≡ w z.0
values_same [] v w e z is = absurd is
values_same (x ∷ xs) v w e z (inl is) =
    let cons : v x.0 ∷ values_at xs v ≡ w x.0 ∷ values_at xs w = e in
    let first : v x.0 ≡ w x.0 = cc in
    ap (λ (y : Var). v y.0) is ∙ first ∙ sym (ap (λ (y : Var). w y.0) is)
values_same (x ∷ xs) v w e z (inr is) =
    let cons : v x.0 ∷ values_at xs v ≡ w x.0 ∷ values_at xs w = e in
    let rest : values_at xs v ≡ values_at xs w = cc in values_same xs v w rest z is

-- positions of a stock with the same men live and the same tuple are one
pub placed_unique : (stock : List Man) (live : ℕ → Bool) (turn : Side) (v w : Values)
    → values_at (tracks_of stock live) v ≡ values_at (tracks_of stock live) w
    → placed stock live turn (squares v) ≡ placed stock live turn (squares w)
placed_unique stock live turn v w e =
    placed_same stock live turn (squares v) (squares w)
    (λ k low high on.
    square_at (squares v k) (squares w k)
    (values_same (tracks_of stock live) v w e (own k).x (seat_in own live (length stock) (own k).x k low high on (inl refl)))
    (values_same (tracks_of stock live) v w e (own k).y (seat_in own live (length stock) (own k).y k low high on (inr refl))))

-- both lists have the same sides and kinds
pub record AreAlike (ms ns : List Man) : Type 0 where
  pub count : length ns ≡ length ms
  pub men : (k : ℕ) (m n : Man) → slice_get ms k ≡ Some m → slice_get ns k ≡ Some n → (n.side ≡ m.side) × (n.kind ≡ m.kind)

pub alike_back : {ms ns : List Man} → AreAlike ms ns → AreAlike ns ms
alike_back h = record { count = sym h.count; men = λ k m n is at. let w = h.men k n m at is in (sym w.0, sym w.1) }

pub alike_of : {stock : List Man} {q : Position} → HasStock stock q → AreAlike stock q.men
alike_of h = record { count = h.count; men = λ k m n is at. h.men (suc k) m n is at }

man_alike : (m n : Man) (x : Place) → n.side ≡ m.side → n.kind ≡ m.kind → record m { place = x } ≡ record n { place = x }
man_alike m n x side sort =
    ap (λ s. record { side = s; kind = m.kind; place = x }) (sym side) ∙ ap (λ k. record { side = n.side; kind = k; place = x }) (sym sort)

pub men_alike : (i : ℕ) {ms ns : List Man} (live : ℕ → Bool) (f : ℕ → Square) → AreAlike ms ns → men_from i ms live f ≡ men_from i ns live f
men_alike i {ms = []} {ns = []} live f h = refl
men_alike i {ms = []} {ns = n ∷ ns} live f h = absurd (omega (arith, h.count))
men_alike i {ms = m ∷ ms} {ns = []} live f h = absurd (omega (arith, h.count))
men_alike i {ms = m ∷ ms} {ns = n ∷ ns} live f h =
    let first = h.men 0 m n refl refl in
    let rest : AreAlike ms ns = record { count = omega (arith, h.count); men = λ k a b is at. h.men (suc k) a b is at } in
    let place : Place = place_at (live i) (f i) in
    ap (λ a. a ∷ men_from (suc i) ms live f) (man_alike m n place first.0 first.1)
    ∙ ap (λ xs. record n { place = place } ∷ xs) (men_alike (suc i) live f rest)
